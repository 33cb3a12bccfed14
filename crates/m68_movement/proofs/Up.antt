-- Loads upwards, all of which lie in memory, and stores upwards that nothing refuses.
use Rattle.std.proofs.Common.{◌≡◌, ℕ, ◌+◌, ◌*◌, ◌^◌, ◌<◌, ◌≤◌, true, None, List, [], ◌∷◌, length, Ok, Err, refl, arith}
use Rattle.std.proofs.lemmas.Bool.Decides.{nat_tests}
use Rattle.mix_bits.specs.declared.size.Size.{Size}
use Rattle.mix_bits.specs.declared.fault.Fault.{Fault}
use Rattle.mix_bits.specs.Addresses.{onward}
use Rattle.mix_bits.specs.Sizes.{bytes_of}
use Rattle.big_memory.specs.declared.refusals.Access.{Access}
use Rattle.big_memory.specs.laws.Laws.{InMemoryWithin, OpenPasses, PassesWithin}
use Rattle.big_memory.specs.Memory.{Memory, IsRam, in_memory, loaded, refusal, stored}
use Rattle.big_memory.specs.StoresClauses.{OnlyFree}
use Rattle.m68_ea.specs.Operands.{loaded_at}
use Rattle.m68_effects.specs.Multiple.{stored_along}
use Rattle.m68_movement.specs.inner.Along.{CanStore}

pub there_above : (m : Memory) (a at k n : ℕ) → InMemoryWithin → in_memory m a 64 ≡ true → a ≤ at → at ≤ a + 4 * k → k < 16 → n ≤ 4 → in_memory m at n ≡ true
there_above m a at k n within all low high below few = within m a 64 at n all low (omega arith)

pub is_loaded : (pc : ℕ) (m : Memory) (a : ℕ) (s : Size) (v : ℕ) → Ok v ≡ loaded m a s → loaded_at pc m a s ≡ Ok v
is_loaded pc m a s v is = rw (← is) refl

pub not_refused : (m : Memory) (a : ℕ) (s : Size) (e : Access) → in_memory m a (bytes_of s) ≡ true → Err e ≡ loaded m a s → ⊥
not_refused m a s e there is = let bad = rw there at is in cc

pub small_end : (m : Memory) (a : ℕ) → length m.bytes ≤ 16777216 → in_memory m a 64 ≡ true → a + 64 ≤ 16777216
small_end m a small there = let within : a + 64 ≤ length m.bytes = grind (arith, nat_tests, there) in omega arith

pub onward_within : (at n : ℕ) → at + n < 2 ^ 32 → onward at n ≡ at + n
onward_within at n fits = omega arith

-- stores
pub may_above : (m : Memory) (a at k n : ℕ) → PassesWithin → IsRam m → refusal m a 64 ≡ None → a ≤ at → at ≤ a + 4 * k → k < 16 → n ≤ 4 → refusal m at n ≡ None
may_above m a at k n within ram none low high below few = within m a 64 at n ram none (omega arith) (omega arith)

pub small_open : (m : Memory) (a : ℕ) → OpenPasses → length m.bytes ≤ 16777216 → refusal m a 64 ≡ None → a + 64 ≤ 16777216
small_open m a passes small none = let done = passes m a 64 (omega arith) none in omega (arith, done.within)

pub one_up : (pc : ℕ) (l m : Memory) (a step : ℕ) (s : Size) (v : ℕ) (vs : List ℕ) (cell : Fault) → CanStore pc l a s true cell → OnlyFree l m
    → stored_along pc m a step s (v ∷ vs) ≡ stored_along pc (stored m a s v) (onward a step) step s vs
unfolding stored_along
one_up pc l m a step s v vs cell can free = let done = can m v free in rw (done.0) refl

pub none_up : (pc : ℕ) (m : Memory) (a step : ℕ) (s : Size) → stored_along pc m a step s [] ≡ Ok m
unfolding stored_along
none_up pc m a step s = refl
