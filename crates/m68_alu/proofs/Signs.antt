-- Shifts to the right that the sign follows, at once.
use Rattle.std.proofs.Common.{ℕ, ◌≡◌, ◌≢◌, ◌+◌, ◌-◌, ◌*◌, ◌/◌, ◌%◌, ◌^◌, ◌<◌, ◌≤◌, ◌==◌, ◌&&◌, not, Bool, true, false, zero, suc, refl, sym, ap, ◌∙◌, arith}
use Rattle.std.specs.Prelude.{nat_le}
use Rattle.std.specs.Fn.{iterate}
use Rattle.std.specs.Int.{from_bool}
use Rattle.std.proofs.Math.Nat.{div-le_self}
use Rattle.std.proofs.lemmas.Bool.Decides.{nat_tests}
use Rattle.std.proofs.lemmas.Nat.{pow_pos}
use Rattle.mix_bits.specs.declared.size.Size.{Size}
use Rattle.mix_bits.specs.declared.size.Size.TheVariants.{Zero, One, Two, Four}
use Rattle.mix_bits.specs.Sizes.{modulus, truncated}
use Rattle.m68_isa.specs.declared.instructions.ShiftOp.TheVariants.{As}
use Rattle.m68_isa.specs.declared.registers.Ccr.{Ccr}
use Rattle.m68_alu.specs.declared.shifts.Shifting.{Shifting}
use Rattle.mix_bits.specs.Signs.{half}
use Rattle.m68_alu.specs.Shifts.{begun, once}
use Rattle.m68_alu.proofs.Repeats.{iterate-more}
use Rattle.m68_alu.proofs.Zeros.{after, cut, half-twice, halves, not-first, pow-more, right_after}

not-negative : (s : Size) (v : ℕ) → v < half s → nat_le (half s) v ≡ false
not-negative s v low = grind (arith, nat_tests, low)

pub below-half : (s : Size) (v : ℕ) → nat_le (half s) v ≡ false → v < half s
below-half s v is = grind (arith, nat_tests, is)

negative : (s : Size) (v : ℕ) → half s ≤ v → nat_le (half s) v ≡ true
negative s v high = grind (arith, nat_tests, high)

plain_once : (s : Size) (v : ℕ) (x : Bool) (c : ℕ) → v < half s → once As false s (right_after v x c) ≡ right_after v x (c + 1)
plain_once s v x c low =
    let more : 2 ^ (c + 1) ≡ 2 * 2 ^ c = pow-more c in
    let down : v / 2 ^ (c + 1) ≡ v / 2 ^ c / 2 = rw more (halves v (2 ^ c)) in
    let out : 2 * v / 2 ^ (c + 1) ≡ v / 2 ^ c = rw more (half-twice v (2 ^ c) (pow_pos c)) in
    let less : v / 2 ^ c ≤ v = div-le_self v (2 ^ c) in
    let sign : nat_le (half s) (v / 2 ^ c) ≡ false = not-negative s (v / 2 ^ c) (omega (arith, less, low)) in
    let plain : v / 2 ^ c / 2 + from_bool false * half s ≡ v / 2 ^ c / 2 = omega arith in
    rw (down, out, not-first c, sign, plain) refl

-- a value that is not negative
pub plain_all : (s : Size) (v : ℕ) (old : Ccr) (c : ℕ) → truncated v s < half s → iterate (once As false s) c (begun As s v old) ≡ right_after (truncated v s) old.x c
plain_all s v old zero low =
    let whole : truncated v s / 2 ^ 0 ≡ truncated v s = omega arith in
    let none : (2 * truncated v s / 2 ^ 0 % 2 == 1) ≡ false = grind (arith, nat_tests) in
    rw (whole, none) refl
plain_all s v old (suc c) low =
    let more : suc c ≡ c + 1 = omega arith in
    ap (λ k. iterate (once As false s) k (begun As s v old)) more ∙ iterate-more (once As false s) c (begun As s v old)
    ∙ ap (once As false s) (plain_all s v old c low) ∙ plain_once s (truncated v s) old.x c low ∙ ap (right_after (truncated v s) old.x) (sym more)

-- a negative value, by its ones complement
abbrev pub negative_after : Size → ℕ → Bool → ℕ → Shifting
negative_after s v x c = after (modulus s - 1 - v / 2 ^ c) (not (c == 0) && (2 * v / 2 ^ c % 2 == 0)) x c

complement-high : (s : Size) (b : ℕ) → s ≢ Zero → b < half s → half s ≤ modulus s - 1 - b
complement-high Zero b some low = absurd (some refl)
complement-high One b some low = omega (arith, low)
complement-high Two b some low = omega (arith, low)
complement-high Four b some low = omega (arith, low)

complement-half : (s : Size) (b : ℕ) → s ≢ Zero → b < half s → (modulus s - 1 - b) / 2 + from_bool true * half s ≡ modulus s - 1 - b / 2
complement-half Zero b some low = absurd (some refl)
complement-half One b some low = omega (arith, low)
complement-half Two b some low = omega (arith, low)
complement-half Four b some low = omega (arith, low)

complement-bit : (s : Size) (b : ℕ) → s ≢ Zero → b < half s → ((modulus s - 1 - b) % 2 == 1) ≡ (b % 2 == 0)
complement-bit Zero b some low = absurd (some refl)
complement-bit One b some low = grind (arith, nat_tests, low)
complement-bit Two b some low = grind (arith, nat_tests, low)
complement-bit Four b some low = grind (arith, nat_tests, low)

negative_once : (s : Size) (v : ℕ) (x : Bool) (c : ℕ) → s ≢ Zero → v < half s → once As false s (negative_after s v x c) ≡ negative_after s v x (c + 1)
negative_once s v x c some low =
    let more : 2 ^ (c + 1) ≡ 2 * 2 ^ c = pow-more c in
    let down : v / 2 ^ (c + 1) ≡ v / 2 ^ c / 2 = rw more (halves v (2 ^ c)) in
    let out : 2 * v / 2 ^ (c + 1) ≡ v / 2 ^ c = rw more (half-twice v (2 ^ c) (pow_pos c)) in
    let less : v / 2 ^ c ≤ v = div-le_self v (2 ^ c) in
    let small : v / 2 ^ c < half s = omega (arith, less, low) in
    let sign : nat_le (half s) (modulus s - 1 - v / 2 ^ c) ≡ true = negative s (modulus s - 1 - v / 2 ^ c) (complement-high s (v / 2 ^ c) some small) in
    rw (down, out, not-first c, sign, complement-half s (v / 2 ^ c) some small, complement-bit s (v / 2 ^ c) some small) refl

complement-low : (s : Size) (v : ℕ) → s ≢ Zero → half s ≤ v → modulus s - 1 - v < half s
complement-low Zero v some high = absurd (some refl)
complement-low One v some high = omega (arith, high)
complement-low Two v some high = omega (arith, high)
complement-low Four v some high = omega (arith, high)

pub negative_all : (s : Size) (v : ℕ) (old : Ccr) (c : ℕ) → s ≢ Zero → half s ≤ truncated v s → iterate (once As false s) c (begun As s v old) ≡ negative_after s (modulus s - 1 - truncated v s) old.x c
negative_all s v old zero some high =
    let small : truncated v s < modulus s = cut s v in
    let whole : modulus s - 1 - (modulus s - 1 - truncated v s) / 2 ^ 0 ≡ truncated v s = omega (arith, small) in
    rw whole refl
negative_all s v old (suc c) some high =
    let more : suc c ≡ c + 1 = omega arith in
    let low : modulus s - 1 - truncated v s < half s = complement-low s (truncated v s) some high in
    ap (λ k. iterate (once As false s) k (begun As s v old)) more ∙ iterate-more (once As false s) c (begun As s v old)
    ∙ ap (once As false s) (negative_all s v old c some high) ∙ negative_once s (modulus s - 1 - truncated v s) old.x c some low
    ∙ ap (negative_after s (modulus s - 1 - truncated v s) old.x) (sym more)
