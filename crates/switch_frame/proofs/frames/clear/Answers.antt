use Rattle.std.proofs.Common.{◌-◌, ◌/◌, replicate, false, ap, ◌∙◌}
use Rattle.big_memory.specs.MemoryClauses.{with_marks}
use Rattle.switch_frame.proofs.frames.clear.Goals as goal

pub returns : goal.returns
returns c =
    c.unguard.ensures
    ∙ ap (λ m. with_marks (c.args.lo / 16) (replicate ((c.args.hi - c.args.lo) / 16) false) m) c.put_zeros.ensures
