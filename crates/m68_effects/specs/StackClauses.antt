-- A push where the place is plainly open.
use Rattle.std.specs.Prelude.{◌≡◌, Bool, true, false, Result, Ok}
use Rattle.mix_bits.specs.declared.fault.Fault.{Fault}
use Rattle.m68_isa.specs.declared.registers.Regs68.{Regs68}
use Rattle.big_memory.specs.Memory.{Memory}
use Rattle.big_memory.specs.StoresClauses.{OnlyFree}
use Rattle.m68_ea.specs.Finds.{KeepsOthers}

-- the same of a push where the place is plainly open; else nothing is changed
abbrev pub PushesIf : Bool → Result (Regs68 × Memory) Fault → Bool → Regs68 → Regs68 → Memory → Memory → Type 0
PushesIf plain all true r q m n = (all ≡ Ok (q, n)) × OnlyFree m n × KeepsOthers r q
PushesIf plain all false r q m n = (plain ≡ false) × (q ≡ r) × (n ≡ m)
