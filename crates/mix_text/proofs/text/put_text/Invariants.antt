-- The bytes of the lines before were put, or are held.
use Rattle.std.proofs.Common.{length}
use Rattle.mix_io.specs.StreamsClauses.{output}
use Rattle.mix_text.proofs.Walks.{Putting}
use Rattle.mix_text.proofs.text.put_text.Given as goal

abbrev pub invariant-lines : goal.invariant-lines
invariant-lines g l =
    Putting (output (g.O.Sink.held l.initial.out) (g.O.Sink.faults l.initial.out)) (output (g.O.Sink.held l.out) (g.O.Sink.faults l.out))
    l.set l.at l.text l.next l.rest l.piece.items

abbrev pub decreases-lines : goal.decreases-lines
decreases-lines g l = length l.rest
