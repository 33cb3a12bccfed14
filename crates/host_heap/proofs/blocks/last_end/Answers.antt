use Rattle.std.proofs.Common.{◌∙◌, sym, ap}
use Rattle.std.specs.Prelude.{option_copied}
use Rattle.host_heap.proofs.Appending.{end-none, end-some}
use Rattle.host_heap.proofs.blocks.last_end.Goals as goal

pub returns-in-None : goal.returns-in-None
returns-in-None c = c.from.ensures ∙ end-none c.args.low c.args.blocks.now (ap option_copied (sym c.in-None.is) ∙ c.last.ensures.value)

pub returns-in-Some : goal.returns-in-Some
returns-in-Some c = c.end.ensures ∙ end-some c.args.low c.args.blocks.now c.in-Some.last.now (ap option_copied (sym c.in-Some.is) ∙ c.last.ensures.value)
