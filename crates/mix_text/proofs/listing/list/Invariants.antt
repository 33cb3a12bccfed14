use Rattle.std.proofs.Common.{◌-◌}
use Rattle.mix_io.specs.StreamsClauses.{output}
use Rattle.mix_text.proofs.ListedLines.{Way}
use Rattle.mix_text.proofs.listing.list.Given as goal

abbrev pub invariant-lines : goal.invariant-lines
invariant-lines g l =
    Way (output (g.O.Sink.held l.initial.out) (g.O.Sink.faults l.initial.out)) (output (g.O.Sink.held l.out) (g.O.Sink.faults l.out))
    l.count l.set l.ram l.at (l.count - l._k) l.next
