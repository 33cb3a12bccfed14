-- What code that reads operands from an instruction's words answers. A fault stands in a cell beside
-- the answer, and has changed neither registers nor memory
-- (M68000 Family Programmer's Reference Manual, section 2.2).
use Rattle.std.specs.Prelude.{◌≡◌, ℕ, Bool, true, false, if◌then◌else◌, Option, Some, None, Result, Ok, Err}
use Rattle.mix_bits.specs.declared.fault.Fault.{Fault}
use Rattle.mix_bits.specs.declared.fault.FaultKind.TheVariants.{Illegal}
use Rattle.m68_isa.specs.declared.registers.Regs68.{Regs68}
use Rattle.big_memory.specs.Memory.{Memory}
use Rattle.mix_bits.specs.Faults.{fault_at}
use Rattle.big_memory.specs.StoresClauses.{OnlyFree}

-- a value, or the fault in the cell
abbrev pub Gives : {T : Type 0} → Result T Fault → Option T → Fault → Type 0
Gives all (Some v) cell = all ≡ Ok v
Gives all None cell = all ≡ Err cell

-- a store that is done, or the fault in the cell
abbrev pub Stored : Result Memory Fault → Bool → Fault → Memory → Memory → Type 0
Stored all true cell m n = (all ≡ Ok n) × OnlyFree m n
Stored all false cell m n = (all ≡ Err cell) × (n ≡ m)

-- an instruction with an index word of the full format is illegal, before any access
abbrev pub unless_illegal : {T : Type 0} → ℕ → ℕ → Bool → Result T Fault → Result T Fault
unless_illegal pc first good done = if good then done else Err (fault_at pc Illegal first)

-- increments and decrements change nothing but address registers
pub record KeepsOthers (r q : Regs68) : Type 0 where
  pub d : q.d ≡ r.d
  pub pc : q.pc ≡ r.pc
  pub ccr : q.ccr ≡ r.ccr
