use Rattle.std.proofs.Common.{◌∙◌, sym, arith}
use Rattle.binhex.proofs.Rests.{next_byte}
use Rattle.binhex.proofs.rest.Rest.next.Goals as goal

pub returns : goal.returns
returns c = sym c.self.view_is ∙ (sym c.loop-self.invariant ∙ next_byte c.loop-self.self-inside.run c.loop-self.self-inside.packed.now (omega arith))
