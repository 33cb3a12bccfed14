-- What a step of one instruction set answers, for any set's registers.
use Rattle.std.specs.Prelude.{ℕ, Result, Ok, Err}
use Rattle.mix_bits.specs.declared.fault.Fault.{Fault}
use Rattle.big_memory.specs.declared.refusals.Access.{Access}
use Rattle.big_memory.specs.Memory.{Memory}
use Rattle.big_memory.specs.Faults.{fault_of}

-- a step goes on with registers and memory; or it leaves the set's code, for the host, by a number; or
-- it stops at a fault. Only a step that goes on changes anything
pub data After (R : Type 0) : Type 0 where
  Goes : (next : R) (memory : Memory) → After R
  Leaves : (number : ℕ) → After R
  Stops : (fault : Fault) → After R

-- the step of the instruction at pc, once what it stores is stored or refused
abbrev pub after_store : {R : Type 0} → ℕ → R → Result Memory Access → After R
after_store pc next (Ok m) = Goes next m
after_store pc next (Err e) = Stops (fault_of pc e)

-- and once what it loads is loaded
abbrev pub after_load : {R T : Type 0} → ℕ → (T → After R) → Result T Access → After R
after_load pc goes_on (Ok v) = goes_on v
after_load pc goes_on (Err e) = Stops (fault_of pc e)
