-- What pushing and popping answer; a refused one changes nothing
-- (M68000 Family Programmer's Reference Manual, section 2.6.1).
use Rattle.std.specs.Prelude.{◌≡◌, ℕ, Bool, true, false, slice_index, Option, Some, None, Result, Ok, Err}
use Rattle.mix_bits.specs.declared.fault.Fault.{Fault}
use Rattle.m68_isa.specs.declared.registers.Regs68.{Regs68}
use Rattle.big_memory.specs.Memory.{Memory}
use Rattle.big_memory.specs.StoresClauses.{OnlyFree}
use Rattle.m68_ea.specs.Finds.{KeepsOthers}
use Rattle.m68_ea.specs.Places.{with_address}

-- a long that is pushed, or the fault in the cell
abbrev pub Pushes : Result (Regs68 × Memory) Fault → Bool → Fault → Regs68 → Regs68 → Memory → Memory → Type 0
Pushes all true cell r q m n = (all ≡ Ok (q, n)) × OnlyFree m n × KeepsOthers r q
Pushes all false cell r q m n = (all ≡ Err cell) × (q ≡ r) × (n ≡ m)

-- a value of a size that is popped, or the fault in the cell
abbrev pub Pops : Result (Regs68 × ℕ) Fault → Option ℕ → Fault → Regs68 → Regs68 → Type 0
Pops all (Some v) cell r q = (all ≡ Ok (q, v)) × KeepsOthers r q × (with_address q 7 (slice_index r.a 7) ≡ r)
Pops all None cell r q = (all ≡ Err cell) × (q ≡ r)
