use Rattle.mixed_machine.proofs.StepKinds.{steps-are_kinds}
use Rattle.mixed_machine.proofs.Trapped.{traps-never_cross}
use Rattle.mixed_machine.proofs.laws.step_laws.Goals as goal

pub returns : goal.returns
returns c = record { kinds = steps-are_kinds; traps = traps-never_cross }
