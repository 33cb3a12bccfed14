use Rattle.std.proofs.Common.{refl, lit≤}
use Rattle.switch_frame.specs.Chain.{read_chain, records}
use Rattle.gdb_tests.proofs.still.has_no_frame.Goals as goal

pub returns : goal.returns
unfolding records read_chain
returns c = record { ram = c.meets_invariant.ensures; first = refl; few = lit≤ tt; frames = tt }
