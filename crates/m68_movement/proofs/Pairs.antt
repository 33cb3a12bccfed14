-- An instruction of two operands, either of which may have an index word of another processor.
use Rattle.std.proofs.Common.{◌≡◌, Bool, true, false, ◌&&◌, refl, Result, Err}
use Rattle.std.specs.Prelude.{if◌then◌else◌}
use Rattle.mix_bits.specs.Results.{◌>>=◌}
use Rattle.mix_bits.specs.declared.fault.Fault.{Fault}
use Rattle.m68_isa.specs.declared.registers.Regs68.{Regs68}
use Rattle.big_memory.specs.Memory.{Memory}
use Rattle.big_memory.specs.declared.steps.Did.{Did}
use Rattle.big_memory.specs.Steps.{After}
use Rattle.big_memory.specs.StepsClauses.{Does}
use Rattle.big_memory.specs.Steps.After.{Stops}
use Rattle.m68_effects.specs.Parts.{Effect, after}

-- the second one has
pub second_bad : (a b : Bool) (x y : After Regs68) (did : Did) (cell : Fault) (r q : Regs68) (m n : Memory)
    → b ≡ false → Does y did cell r q m n → Does (if a && b then x else y) did cell r q m n
second_bad true b x y did cell r q m n bad done = rw bad done
second_bad false b x y did cell r q m n bad done = done

-- the second one has not, and the first one has, or is refused
pub first_refused : {T : Type 0} (a b : Bool) (x : Result T Fault) (f : T → Effect) (why cell : Fault)
    → b ≡ true → (if a then x else Err why) ≡ Err cell → (if a && b then after (x >>= f) else Stops why) ≡ Stops cell
first_refused true b x f why cell good refused = rw (good, refused) refl
first_refused false b x f why cell good refused = cc
