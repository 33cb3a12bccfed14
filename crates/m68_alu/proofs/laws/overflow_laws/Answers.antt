use Rattle.m68_alu.proofs.Leaving.{of_sum, of_difference}
use Rattle.m68_alu.proofs.laws.overflow_laws.Goals as goal

pub returns : goal.returns
returns c = record { of_sum = of_sum; of_difference = of_difference }
