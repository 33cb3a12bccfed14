-- Steps that were tried, and left to others.
use Rattle.std.proofs.Common.{◌≡◌, Bool, false}
use Rattle.mix_bits.specs.declared.fault.Fault.{Fault}
use Rattle.m68_isa.specs.declared.registers.Regs68.{Regs68}
use Rattle.big_memory.specs.Memory.{Memory}
use Rattle.big_memory.specs.declared.steps.Did.{Did}
use Rattle.big_memory.specs.Steps.{After}
use Rattle.big_memory.specs.StepsClauses.{Does}
use Rattle.m68_effects.specs.laws.Tried.{Tries}

pub then_by_others : (step : Regs68 → Memory → After Regs68) (x : After Regs68) (tried : Bool) (did : Did) (cell : Fault) (r q t : Regs68) (m n k : Memory)
    → tried ≡ false → Tries x tried r q m n → Does (step q n) did cell q t n k → Does (step r m) did cell r t m k
then_by_others step x tried did cell r q t m n k left tries done =
    let same = rw left at tries in rw (← (same.0), ← (same.1)) done
