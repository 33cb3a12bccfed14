-- Stores downwards that nothing refuses.
use Rattle.std.proofs.Common.{◌≡◌, ℕ, suc, ◌+◌, ◌-◌, ◌*◌, ◌^◌, ◌<◌, ◌≤◌, true, None, List, [], ◌∷◌, Ok, refl, arith}
use Rattle.mix_bits.specs.declared.size.Size.{Size}
use Rattle.mix_bits.specs.declared.fault.Fault.{Fault}
use Rattle.mix_bits.specs.Sizes.{bytes_of}
use Rattle.big_memory.specs.laws.Laws.{PassesWithin}
use Rattle.big_memory.specs.Memory.{Memory, IsRam, refusal, stored}
use Rattle.big_memory.specs.StoresClauses.{OnlyFree}
use Rattle.mix_bits.specs.Addresses.{backward}
use Rattle.m68_effects.specs.Multiple.{stored_down}
use Rattle.m68_movement.specs.inner.Along.{CanStore}

-- the place of the next one
pub place_below : (at n : ℕ) → n ≤ at → at < 2 ^ 32 → at - n ≡ backward at n
place_below at n within fits = omega arith

pub may_below : (m : Memory) (base at k n : ℕ) → PassesWithin → IsRam m → refusal m (base - 64) 64 ≡ None → 64 ≤ base → base ≤ at + 4 * k → k < 16 → at ≤ base → n ≤ 4
    → refusal m (at - n) n ≡ None
may_below m base at k n within ram none from low below high few = within m (base - 64) 64 (at - n) n ram none (omega arith) (omega arith)

pub one_down : (pc : ℕ) (l m : Memory) (a b : ℕ) (s : Size) (v : ℕ) (vs : List ℕ) (cell : Fault) → CanStore pc l b s true cell → OnlyFree l m → b ≡ backward a (bytes_of s)
    → stored_down pc m a s (v ∷ vs) ≡ stored_down pc (stored m b s v) b s vs
unfolding stored_down
one_down pc l m a b s v vs cell can free is = let done = can m v free in rw (← is, done.0) refl

pub none_down : (pc : ℕ) (m : Memory) (a : ℕ) (s : Size) → stored_down pc m a s [] ≡ Ok m
unfolding stored_down
none_down pc m a s = refl

-- how many are left
pub one_less : (at n all base left : ℕ) → n ≤ at → at + n * all ≡ base + n * suc left → at - n + n * all ≡ base + n * left
one_less at n all base left within is =
    let more : n * suc left ≡ n + n * left = grind arith in
    omega (arith, is, more, within)

pub last_place : (at each n base : ℕ) → at + n ≡ base + each * 0 → base < 2 ^ 32 → at ≡ backward base n
last_place at each n base is fits = let none : each * 0 ≡ 0 = grind arith in omega (arith, is, none, fits)
