use Rattle.switch_frame.specs.Records.{isa_of}
use Rattle.mixed_machine.specs.Machine.{IsWhole}
use Rattle.machine_tests.proofs.frames.step_to.Given as goal

abbrev pub invariant-steps : goal.invariant-steps
invariant-steps g l = IsWhole l.m.body (isa_of l.m.active)
