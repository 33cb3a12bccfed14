-- A value that is written at a place, or a refusal with nothing changed
-- (M68000 Family Programmer's Reference Manual, section 2.2).
use Rattle.std.specs.Prelude.{◌≡◌, Result, Ok, Err}
use Rattle.m68_isa.specs.declared.registers.Regs68.{Regs68}
use Rattle.big_memory.specs.declared.refusals.Access.{Access}
use Rattle.big_memory.specs.Memory.{Memory}
use Rattle.big_memory.specs.StoresClauses.{OnlyFree}

-- a value that is written at a place; or nothing is changed
abbrev pub Writes : Result (Regs68 × Memory) Access → Result (Unit {0}) Access → Regs68 → Memory → Regs68 → Memory → Type 0
Writes all (Ok done) r m q n = (all ≡ Ok (q, n)) × OnlyFree m n
Writes all (Err access) r m q n = (all ≡ Err access) × (q ≡ r) × (n ≡ m)
