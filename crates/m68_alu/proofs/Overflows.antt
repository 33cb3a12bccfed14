-- Arithmetic shifts to the left, at once: whether the sign changes on the way.
use Rattle.std.proofs.Common.{ℕ, ◌≡◌, ◌≢◌, ◌+◌, ◌-◌, ◌*◌, ◌/◌, ◌%◌, ◌^◌, ◌<◌, ◌≤◌, ◌==◌, ◌||◌, not, Bool, true, false, zero, suc, refl, sym, ap, ◌∙◌, arith}
use Rattle.std.specs.Prelude.{nat_le, nat_lt, if◌then◌else◌}
use Rattle.std.specs.Fn.{iterate}
use Rattle.std.proofs.lemmas.Bool.Decides.{nat_tests}
use Rattle.std.proofs.lemmas.Nat.{pow-add, pow_pos}
use Rattle.mix_bits.specs.declared.size.Size.{Size}
use Rattle.mix_bits.specs.declared.size.Size.TheVariants.{Zero, One, Two, Four}
use Rattle.mix_bits.specs.Sizes.{modulus, truncated}
use Rattle.m68_isa.specs.declared.instructions.ShiftOp.TheVariants.{As}
use Rattle.m68_isa.specs.declared.registers.Ccr.{Ccr}
use Rattle.m68_alu.specs.declared.shifts.Shifting.{Shifting}
use Rattle.mix_bits.specs.Signs.{half}
use Rattle.m68_alu.specs.Shifts.{begun, once}
use Rattle.m68_alu.proofs.Repeats.{iterate-more}
use Rattle.m68_alu.proofs.Zeros.{carried, cut, doubled, kept, not-first, pow-more, unchanged}

abbrev turns : Size → ℕ → ℕ → Bool
turns s before after = if nat_le (half s) before then not (nat_le (half s) after) else nat_le (half s) after

plain_sign : (s : Size) (w : ℕ) → s ≢ Zero → (nat_le (half s) w || turns s (w % modulus s) (2 * w % modulus s)) ≡ nat_le (half s) (2 * w)
plain_sign Zero w some = absurd (some refl)
plain_sign One w some = grind (arith, nat_tests)
plain_sign Two w some = grind (arith, nat_tests)
plain_sign Four w some = grind (arith, nat_tests)

negative_sign : (s : Size) (w y p : ℕ) → s ≢ Zero → w + y ≡ modulus s * p → 0 < y
    → (nat_lt (half s) y || turns s (w % modulus s) (2 * w % modulus s)) ≡ nat_lt (half s) (2 * y)
negative_sign Zero w y p some all more = absurd (some refl)
negative_sign One w y p some all more = grind (arith, nat_tests, all, more)
negative_sign Two w y p some all more = grind (arith, nat_tests, all, more)
negative_sign Four w y p some all more = grind (arith, nat_tests, all, more)

abbrev pub grown : Size → ℕ → Bool → Bool → ℕ → Shifting
grown s w over x c = record { value = w % modulus s; out = w / modulus s % 2 == 1; x = if c == 0 then x else w / modulus s % 2 == 1; changed = over }

grown_once : (s : Size) (w : ℕ) (over more x : Bool) (c : ℕ) → s ≢ Zero → (over || turns s (w % modulus s) (2 * w % modulus s)) ≡ more
    → once As true s (grown s w over x c) ≡ grown s (2 * w) more x (c + 1)
grown_once s w over more x c some is = rw (not-first c, ← is, doubled s w some, carried s w some) refl

wide-more : (v c : ℕ) → v * 2 ^ (c + 1) ≡ 2 * (v * 2 ^ c)
wide-more v c = rw (pow-more c) (grind arith)

pub plain_all : (s : Size) (v : ℕ) (old : Ccr) (c : ℕ) → s ≢ Zero → truncated v s < half s
    → iterate (once As true s) c (begun As s v old) ≡ grown s (truncated v s * 2 ^ c) (nat_le (half s) (truncated v s * 2 ^ c)) old.x c
plain_all s v old zero some low =
    let small : truncated v s < modulus s = cut s v in
    let whole : truncated v s * 2 ^ 0 % modulus s ≡ truncated v s = unchanged s (truncated v s) small in
    let none : (truncated v s * 2 ^ 0 / modulus s % 2 == 1) ≡ false = kept s (truncated v s) small in
    let stays : nat_le (half s) (truncated v s * 2 ^ 0) ≡ false = grind (arith, nat_tests, low) in
    rw (whole, none, stays) refl
plain_all s v old (suc c) some low =
    let more : suc c ≡ c + 1 = omega arith in
    let wide : truncated v s * 2 ^ (c + 1) ≡ 2 * (truncated v s * 2 ^ c) = wide-more (truncated v s) c in
    ap (λ k. iterate (once As true s) k (begun As s v old)) more ∙ iterate-more (once As true s) c (begun As s v old)
    ∙ ap (once As true s) (plain_all s v old c some low) ∙ grown_once s (truncated v s * 2 ^ c) _ _ old.x c some (plain_sign s (truncated v s * 2 ^ c) some)
    ∙ ap (λ w. grown s w (nat_le (half s) w) old.x (c + 1)) (sym wide)
    ∙ ap (λ k. grown s (truncated v s * 2 ^ k) (nat_le (half s) (truncated v s * 2 ^ k)) old.x k) (sym more)

-- a negative value, by how far it is below 0
below-low : (s : Size) (v : ℕ) → s ≢ Zero → half s ≤ v → modulus s - v ≤ half s
below-low Zero v some high = absurd (some refl)
below-low One v some high = omega (arith, high)
below-low Two v some high = omega (arith, high)
below-low Four v some high = omega (arith, high)

spread : (v u m p : ℕ) → v + u ≡ m → v * p + u * p ≡ m * p
spread v u m p is = rw (← is) (grind arith)

product-some : (u p : ℕ) → 0 < u → 0 < p → 0 < u * p
product-some u p more some = grind (arith, more, some)

pub negative_all : (s : Size) (v : ℕ) (old : Ccr) (c : ℕ) → s ≢ Zero → half s ≤ truncated v s
    → iterate (once As true s) c (begun As s v old) ≡ grown s (truncated v s * 2 ^ c) (nat_lt (half s) ((modulus s - truncated v s) * 2 ^ c)) old.x c
negative_all s v old zero some high =
    let small : truncated v s < modulus s = cut s v in
    let whole : truncated v s * 2 ^ 0 % modulus s ≡ truncated v s = unchanged s (truncated v s) small in
    let none : (truncated v s * 2 ^ 0 / modulus s % 2 == 1) ≡ false = kept s (truncated v s) small in
    let low : modulus s - truncated v s ≤ half s = below-low s (truncated v s) some high in
    let stays : nat_lt (half s) ((modulus s - truncated v s) * 2 ^ 0) ≡ false = grind (arith, nat_tests, low) in
    rw (whole, none, stays) refl
negative_all s v old (suc c) some high =
    let more : suc c ≡ c + 1 = omega arith in
    let t = truncated v s in
    let u = modulus s - t in
    let small : t < modulus s = cut s v in
    let all : t * 2 ^ c + u * 2 ^ c ≡ modulus s * 2 ^ c = spread t u (modulus s) (2 ^ c) (omega (arith, small)) in
    let some-below : 0 < u * 2 ^ c = product-some u (2 ^ c) (omega (arith, small)) (pow_pos c) in
    let wide : t * 2 ^ (c + 1) ≡ 2 * (t * 2 ^ c) = wide-more t c in
    let deep : u * 2 ^ (c + 1) ≡ 2 * (u * 2 ^ c) = wide-more u c in
    ap (λ k. iterate (once As true s) k (begun As s v old)) more ∙ iterate-more (once As true s) c (begun As s v old)
    ∙ ap (once As true s) (negative_all s v old c some high) ∙ grown_once s (t * 2 ^ c) _ _ old.x c some (negative_sign s (t * 2 ^ c) (u * 2 ^ c) (2 ^ c) some all some-below)
    ∙ ap (λ w. grown s w (nat_lt (half s) (2 * (u * 2 ^ c))) old.x (c + 1)) (sym wide)
    ∙ ap (λ d. grown s (t * 2 ^ (c + 1)) (nat_lt (half s) d) old.x (c + 1)) (sym deep)
    ∙ ap (λ k. grown s (t * 2 ^ k) (nat_lt (half s) (u * 2 ^ k)) old.x k) (sym more)

-- 32 shifts take any value but 0 out of a long
half-some : (s : Size) → 0 < half s
half-some Zero = omega arith
half-some One = omega arith
half-some Two = omega arith
half-some Four = omega arith

at-least : (v c : ℕ) → 0 < v → 32 < c → 2 ^ 32 ≤ v * 2 ^ c
at-least v c some many =
    let parts : c ≡ 32 + (c - 32) = omega (arith, many) in
    let rest : 2 ^ c ≡ 2 ^ 32 * 2 ^ (c - 32) = ap (λ k. 2 ^ k) parts ∙ pow-add 2 32 (c - 32) in
    let one : 0 < v * 2 ^ (c - 32) = product-some v (2 ^ (c - 32)) some (pow_pos (c - 32)) in
    let wide : v * 2 ^ c ≡ v * 2 ^ (c - 32) * 2 ^ 32 = rw rest (grind arith) in
    omega (arith, one, wide)

pub far_leaves : (v c most : ℕ) → 32 < c → most < 2 ^ 32 → nat_lt 0 v ≡ nat_lt most (v * 2 ^ c)
far_leaves zero c most many small = grind (arith, nat_tests)
far_leaves (suc v) c most many small =
    let least : 2 ^ 32 ≤ suc v * 2 ^ c = at-least (suc v) c (omega arith) many in
    grind (arith, nat_tests, least, small)

pub from-half : (s : Size) (v : ℕ) → nat_lt (half s - 1) v ≡ nat_le (half s) v
from-half s v = let some : 0 < half s = half-some s in grind (arith, nat_tests, some)

pub at-half : (s : Size) (v : ℕ) → nat_le (half s) v ≡ true → half s ≤ v
at-half s v is = grind (arith, nat_tests, is)
