-- What a step answers that is tried first, and left to others where it isn't done.
use Rattle.std.specs.Prelude.{◌≡◌, Bool, true, false}
use Rattle.m68_isa.specs.declared.registers.Regs68.{Regs68}
use Rattle.big_memory.specs.Memory.{Memory}
use Rattle.big_memory.specs.StoresClauses.{OnlyFree}
use Rattle.big_memory.specs.Steps.{After}
use Rattle.big_memory.specs.Steps.After.{Goes}

-- a step that is done; or it is left to others, and nothing is changed
abbrev pub Tries : After Regs68 → Bool → Regs68 → Regs68 → Memory → Memory → Type 0
Tries step true r q m n = (step ≡ Goes q n) × OnlyFree m n
Tries step false r q m n = (q ≡ r) × (n ≡ m)
