-- The section ends its whole size behind its base.
use Rattle.std.proofs.Common.{ℕ, ◌+◌, ap}
use Rattle.look_text.proofs.sections.add_section.Goals as goal

pub returns-clause-end : goal.returns-clause-end
returns-clause-end c = rw c.from.ensures (ap (λ (b : ℕ). b + c.args.section.total) c.base_behind-base.ensures.is)
