use Rattle.m68_effects.proofs.Steps.{goes, operand_is, refused, taken}
use Rattle.m68_effects.proofs.step_laws.reading_laws.Goals as goal

pub returns : goal.returns
returns c = record { made = operand_is; refused = refused; taken = taken; goes = goes }
