-- Several accesses: all of them are tested in their order before the first one is done. What memory refuses
-- does not depend on what is stored in between.
use Rattle.std.specs.Prelude.{◌≡◌, ℕ, ◌-◌, ◌≤◌, Bool, true, false, List, length, map, Option, Some, None, Ok, Err}
use Rattle.std.specs.Result.{IsOk}
use Rattle.mix_bits.specs.declared.size.Size.{Size}
use Rattle.mix_bits.specs.declared.fault.Fault.{Fault}
use Rattle.mix_bits.specs.Sizes.{bytes_of}
use Rattle.m68_isa.specs.declared.registers.Regs68.{Regs68}
use Rattle.big_memory.specs.Memory.{Memory, stored}
use Rattle.big_memory.specs.StoresClauses.{OnlyFree}
use Rattle.m68_ea.specs.Operands.{stored_at}
use Rattle.mix_bits.specs.Addresses.{backward}
use Rattle.m68_effects.specs.Multiple.{stored_along, stored_down, loaded_along, listed, register_of, span_of}

-- a value can be stored at an address, or why not
abbrev pub CanStore : ℕ → Memory → ℕ → Size → Bool → Fault → Type 0
CanStore pc m a size true cell = (n : Memory) (v : ℕ) → OnlyFree m n → (stored_at pc n a size v ≡ Ok (stored n a size v)) × OnlyFree m (stored n a size v)
CanStore pc m a size false cell = (n : Memory) (v : ℕ) → OnlyFree m n → stored_at pc n a size v ≡ Err cell

-- values can be stored one after the other, or why not
abbrev pub CanStoreAll : ℕ → Memory → ℕ → ℕ → Size → List ℕ → Bool → Fault → Type 0
CanStoreAll pc m a step size vs true cell = (n : Memory) → OnlyFree m n → IsOk (stored_along pc n a step size vs)
CanStoreAll pc m a step size vs false cell = (n : Memory) → OnlyFree m n → stored_along pc n a step size vs ≡ Err cell

-- the registers of a mask that are loaded from an address on, and how many; or none of them
abbrev pub Loads : Regs68 → Memory → ℕ → Size → ℕ → Option ℕ → Fault → Regs68 → Type 0
Loads r m a size mask (Some count) cell q = (loaded_along r.pc r m a size (listed mask) ≡ Ok q) × (count ≡ length (listed mask)) × (count ≤ 16) × (q.pc ≡ r.pc)
Loads r m a size mask None cell q = (loaded_along r.pc r m a size (listed mask) ≡ Err cell) × (q ≡ r)

-- the registers of a mask that are stored downwards from an address, and where the last one stands; or nothing
-- is changed
abbrev pub StoresOpen : Regs68 → Memory → ℕ → Size → ℕ → Option ℕ → Memory → Type 0
StoresOpen r m base size mask (Some end) n =
    (stored_down r.pc m base size (map (λ k. register_of r (15 - k)) (listed mask)) ≡ Ok n) × OnlyFree m n × (end ≡ backward base (span_of size mask))
StoresOpen r m base size mask None n = n ≡ m

-- the registers of a mask that are stored upwards from an address; or nothing is changed
abbrev pub StoresUp : Regs68 → Memory → ℕ → Size → ℕ → Bool → Memory → Type 0
StoresUp r m a size mask true n = (stored_along r.pc m a (bytes_of size) size (map (register_of r) (listed mask)) ≡ Ok n) × OnlyFree m n
StoresUp r m a size mask false n = n ≡ m
