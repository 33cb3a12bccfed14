-- The single steps so far are one run from the machine at the start.
use Rattle.toolbox.specs.CallsClauses.{outside as outside_of}
use Rattle.mixed_machine.specs.OutsideClauses.{at}
use Rattle.mix_io.specs.StreamsClauses.{output}
use Rattle.look_commands.proofs.Cuts.{Cut}
use Rattle.look_commands.proofs.run.run_keeping.Given as goal

abbrev pub invariant-steps : goal.invariant-steps
invariant-steps g l =
    Cut l.done
    (at l.initial.machine.body l.initial.machine.active (outside_of (g.I.Source.left l.initial.input) (g.I.Source.faults l.initial.input) (g.D.Devices.state l.initial.rack) (g.O.Sink.held l.initial.out) (g.O.Sink.faults l.initial.out)) (output (g.T.Sink.held l.initial.trace) (g.T.Sink.faults l.initial.trace)))
    (at l.machine.body l.machine.active (outside_of (g.I.Source.left l.input) (g.I.Source.faults l.input) (g.D.Devices.state l.rack) (g.O.Sink.held l.out) (g.O.Sink.faults l.out)) (output (g.T.Sink.held l.trace) (g.T.Sink.faults l.trace)))
