use Rattle.switch_frame.specs.Records.{isa_of}
use Rattle.mixed_machine.specs.Machine.{IsWhole}
use Rattle.machine_tests.proofs.cuts.run_pieces.Given as goal

abbrev pub invariant-pieces : goal.invariant-pieces
invariant-pieces g l = IsWhole l.trial.machine.body (isa_of l.trial.machine.active)
