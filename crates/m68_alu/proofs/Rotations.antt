-- Rotations, at once.
use Rattle.std.proofs.Common.{ℕ, ◌≡◌, ◌≢◌, ◌+◌, ◌-◌, ◌*◌, ◌/◌, ◌%◌, ◌^◌, ◌<◌, ◌≤◌, ◌==◌, ◌&&◌, inl, inr, not, Bool, true, false, zero, suc, refl, sym, ap, subst, ◌∙◌, arith}
use Rattle.std.specs.Prelude.{nat_le}
use Rattle.std.specs.Fn.{iterate}
use Rattle.std.specs.Int.{from_bool}
use Rattle.std.proofs.Math.Nat.{mod-lt, zero-mod}
use Rattle.std.proofs.lemmas.Bool.Decides.{nat_tests}
use Rattle.std.proofs.lemmas.Nat.{div-add-mod', mod-mul-add, pow-add, pow_pos}
use Rattle.mix_bits.specs.declared.size.Size.{Size}
use Rattle.mix_bits.specs.declared.size.Size.TheVariants.{Zero, One, Two, Four}
use Rattle.mix_bits.specs.Sizes.{bytes_of, modulus, truncated}
use Rattle.m68_isa.specs.declared.instructions.ShiftOp.TheVariants.{Ro, Rox}
use Rattle.m68_isa.specs.declared.registers.Ccr.{Ccr}
use Rattle.m68_alu.specs.declared.shifts.Shifting.{Shifting}
use Rattle.mix_bits.specs.Signs.{half}
use Rattle.m68_alu.specs.Shifts.{begun, once}
use Rattle.m68_alu.proofs.Repeats.{iterate-more}
use Rattle.m68_alu.proofs.Turns.{all-lower, all-upper, bit_over, down_once, turned, turned-within, up_once}
use Rattle.m68_alu.proofs.Zeros.{cut, few-or-many, not-first, pow-more}

-- a number of w bits after c rotations by one bit
abbrev pub to_left : ℕ → ℕ → ℕ → ℕ
to_left w v c = turned v (2 ^ (c % w)) (2 ^ (w - c % w))

abbrev pub to_right : ℕ → ℕ → ℕ → ℕ
to_right w v c = turned v (2 ^ (w - c % w)) (2 ^ (c % w))

-- the count modulo w, one further
one-more : (a b c : ℕ) → a + b ≡ c → c + 1 ≡ a + (b + 1)
one-more a b c is = omega (arith, is)

next-count : (c w : ℕ) → c % w + 1 < w → (c + 1) % w ≡ c % w + 1
next-count c w within = ap (λ n. n % w) (one-more (c / w * w) (c % w) c (div-add-mod' c w)) ∙ mod-mul-add (c / w) w (c % w + 1) within

one-round : (a k w : ℕ) → k + 1 ≡ w → a * w + (k + 1) ≡ (a + 1) * w + 0
one-round a k w full = rw full (omega arith)

round-count : (c w : ℕ) → 0 < w → c % w + 1 ≡ w → (c + 1) % w ≡ 0
round-count c w some full =
    ap (λ n. n % w) (one-more (c / w * w) (c % w) c (div-add-mod' c w) ∙ one-round (c / w) (c % w) w full) ∙ mod-mul-add (c / w + 1) w 0 some

left-whole : (w v : ℕ) → v < 2 ^ w → turned v (2 ^ 0) (2 ^ (w - 0)) ≡ v
left-whole w v small = let same : w - 0 ≡ w = omega arith in rw same (all-lower v (2 ^ w) small)

right-whole : (w v : ℕ) → turned v (2 ^ (w - 0)) (2 ^ 0) ≡ v
right-whole w v = all-upper v (2 ^ (w - 0))

left-near : (w v k : ℕ) → turned v (2 ^ (k + 1)) (2 ^ (w - (k + 1))) ≡ turned v (2 * 2 ^ k) (2 ^ (w - k - 1))
left-near w v k = let rest : w - (k + 1) ≡ w - k - 1 = omega arith in rw (rest, pow-more k) refl

right-near : (w v k : ℕ) → turned v (2 ^ (w - (k + 1))) (2 ^ (k + 1)) ≡ turned v (2 ^ (w - k - 1)) (2 * 2 ^ k)
right-near w v k = let rest : w - (k + 1) ≡ w - k - 1 = omega arith in rw (rest, pow-more k) refl

last-left : (w v k : ℕ) → k + 1 ≡ w → v ≡ turned v (2 * 2 ^ k) (2 ^ (w - k - 1))
last-left w v k full = let none : w - k - 1 ≡ 0 = omega (arith, full) in rw none (sym (all-upper v (2 * 2 ^ k)))

last-right : (w v k : ℕ) → v < 2 ^ w → k + 1 ≡ w → v ≡ turned v (2 ^ (w - k - 1)) (2 * 2 ^ k)
last-right w v k small full =
    let none : w - k - 1 ≡ 0 = omega (arith, full) in
    let all : 2 * 2 ^ k ≡ 2 ^ w = sym (pow-more k) ∙ ap (λ n. 2 ^ n) full in
    rw (none, all) (sym (all-lower v (2 ^ w) small))

left-next : (w v c : ℕ) → 0 < w → v < 2 ^ w → to_left w v (c + 1) ≡ turned v (2 * 2 ^ (c % w)) (2 ^ (w - c % w - 1))
left-next w v c some small =
    let within : c % w < w = mod-lt c some in
    elim (few-or-many (c % w + 2) w) [
      | inl h ↦ ap (λ k. turned v (2 ^ k) (2 ^ (w - k))) (next-count c w (omega (arith, h))) ∙ left-near w v (c % w)
      | inr h ↦ (let full : c % w + 1 ≡ w = omega (arith, h, within) in ap (λ k. turned v (2 ^ k) (2 ^ (w - k))) (round-count c w some full) ∙ left-whole w v small ∙ last-left w v (c % w) full)
    ]

right-next : (w v c : ℕ) → 0 < w → v < 2 ^ w → to_right w v (c + 1) ≡ turned v (2 ^ (w - c % w - 1)) (2 * 2 ^ (c % w))
right-next w v c some small =
    let within : c % w < w = mod-lt c some in
    elim (few-or-many (c % w + 2) w) [
      | inl h ↦ ap (λ k. turned v (2 ^ (w - k)) (2 ^ k)) (next-count c w (omega (arith, h))) ∙ right-near w v (c % w)
      | inr h ↦ (let full : c % w + 1 ≡ w = omega (arith, h, within) in ap (λ k. turned v (2 ^ (w - k)) (2 ^ k)) (round-count c w some full) ∙ right-whole w v ∙ last-right w v (c % w) small full)
    ]

-- the two parts of a number of w bits, and the bit between them
rest-of : (w k : ℕ) → k < w → 2 ^ (w - k) ≡ 2 * 2 ^ (w - k - 1)
rest-of w k within = let more : w - k ≡ w - k - 1 + 1 = omega (arith, within) in ap (λ n. 2 ^ n) more ∙ pow-more (w - k - 1)

half-of : (w k : ℕ) → k < w → 2 ^ k * 2 ^ (w - k - 1) ≡ 2 ^ (w - 1)
half-of w k within = let all : k + (w - k - 1) ≡ w - 1 = omega (arith, within) in sym (pow-add 2 k (w - k - 1)) ∙ ap (λ n. 2 ^ n) all

all-of : (w k : ℕ) → k < w → 2 * (2 ^ k * 2 ^ (w - k - 1)) ≡ 2 ^ w
all-of w k within = let more : w - 1 + 1 ≡ w = omega (arith, within) in ap (λ n. 2 * n) (half-of w k within) ∙ sym (pow-more (w - 1)) ∙ ap (λ n. 2 ^ n) more

other-half : (w k : ℕ) → k < w → 2 ^ (w - k - 1) * 2 ^ k ≡ 2 ^ (w - 1)
other-half w k within = let turn : 2 ^ (w - k - 1) * 2 ^ k ≡ 2 ^ k * 2 ^ (w - k - 1) = omega arith in turn ∙ half-of w k within

other-all : (w k : ℕ) → k < w → 2 * (2 ^ (w - k - 1) * 2 ^ k) ≡ 2 ^ w
other-all w k within = ap (λ n. 2 * n) (other-half w k within ∙ sym (half-of w k within)) ∙ all-of w k within

up-as : (v p q a h m : ℕ) → a ≡ 2 * q → p * q ≡ h → 2 * (p * q) ≡ m → 0 < q → v < m → (2 * turned v p a + from_bool (nat_le h (turned v p a))) % m ≡ turned v (2 * p) q
up-as v p q a h m lower half-is all some small = let within : v < 2 * (p * q) = rw all small in rw (lower, ← half-is, ← all) (up_once v p q some within)

over-as : (v p q a h m : ℕ) → a ≡ 2 * q → p * q ≡ h → 2 * (p * q) ≡ m → 0 < q → v < m → nat_le h (turned v p a) ≡ (turned v (2 * p) q % 2 == 1)
over-as v p q a h m lower half-is all some small = let within : v < 2 * (p * q) = rw all small in rw (lower, ← half-is) (bit_over v p q some within)

down-as : (v p q a h : ℕ) → a ≡ 2 * p → p * q ≡ h → 0 < q → turned v a q / 2 + from_bool (turned v a q % 2 == 1) * h ≡ turned v p (2 * q)
down-as v p q a h upper half-is some = rw (upper, ← half-is) (down_once v p q some)

under-as : (v p q a h m : ℕ) → a ≡ 2 * p → p * q ≡ h → 2 * (p * q) ≡ m → 0 < q → v < m → (turned v a q % 2 == 1) ≡ nat_le h (turned v p (2 * q))
under-as v p q a h m upper half-is all some small = let within : v < 2 * (p * q) = rw all small in rw (upper, ← half-is) (sym (bit_over v p q some within))

-- one rotation of a number of w bits, of which the top one is worth h, and its bit
pub left_step : (w v c h m : ℕ) → 0 < w → 2 ^ (w - 1) ≡ h → 2 ^ w ≡ m → v < m → (2 * to_left w v c + from_bool (nat_le h (to_left w v c))) % m ≡ to_left w v (c + 1)
left_step w v c h m some half-is all small =
    let within : c % w < w = mod-lt c some in
    up-as v (2 ^ (c % w)) (2 ^ (w - c % w - 1)) (2 ^ (w - c % w)) h m (rest-of w (c % w) within) (half-of w (c % w) within ∙ half-is) (all-of w (c % w) within ∙ all) (pow_pos (w - c % w - 1)) small
    ∙ sym (left-next w v c some (rw all small))

pub left_bit : (w v c h m : ℕ) → 0 < w → 2 ^ (w - 1) ≡ h → 2 ^ w ≡ m → v < m → nat_le h (to_left w v c) ≡ (to_left w v (c + 1) % 2 == 1)
left_bit w v c h m some half-is all small =
    let within : c % w < w = mod-lt c some in
    over-as v (2 ^ (c % w)) (2 ^ (w - c % w - 1)) (2 ^ (w - c % w)) h m (rest-of w (c % w) within) (half-of w (c % w) within ∙ half-is) (all-of w (c % w) within ∙ all) (pow_pos (w - c % w - 1)) small
    ∙ ap (λ n. n % 2 == 1) (sym (left-next w v c some (rw all small)))

pub right_step : (w v c h m : ℕ) → 0 < w → 2 ^ (w - 1) ≡ h → 2 ^ w ≡ m → v < m → to_right w v c / 2 + from_bool (to_right w v c % 2 == 1) * h ≡ to_right w v (c + 1)
right_step w v c h m some half-is all small =
    let within : c % w < w = mod-lt c some in
    down-as v (2 ^ (w - c % w - 1)) (2 ^ (c % w)) (2 ^ (w - c % w)) h (rest-of w (c % w) within) (other-half w (c % w) within ∙ half-is) (pow_pos (c % w))
    ∙ sym (right-next w v c some (rw all small))

pub right_bit : (w v c h m : ℕ) → 0 < w → 2 ^ (w - 1) ≡ h → 2 ^ w ≡ m → v < m → (to_right w v c % 2 == 1) ≡ nat_le h (to_right w v (c + 1))
right_bit w v c h m some half-is all small =
    let within : c % w < w = mod-lt c some in
    under-as v (2 ^ (w - c % w - 1)) (2 ^ (c % w)) (2 ^ (w - c % w)) h m (rest-of w (c % w) within) (other-half w (c % w) within ∙ half-is) (other-all w (c % w) within ∙ all) (pow_pos (c % w)) small
    ∙ ap (nat_le h) (sym (right-next w v c some (rw all small)))

left-start : (w v : ℕ) → v < 2 ^ w → to_left w v 0 ≡ v
left-start w v small = ap (λ k. turned v (2 ^ k) (2 ^ (w - k))) (zero-mod w) ∙ left-whole w v small

right-start : (w v : ℕ) → to_right w v 0 ≡ v
right-start w v = ap (λ k. turned v (2 ^ (w - k)) (2 ^ k)) (zero-mod w) ∙ right-whole w v

-- what is left of the bits behind what is left of them
pub rest-back : (w c : ℕ) → 0 < w → w - (w - c % w) ≡ c % w
rest-back w c some = let within : c % w < w = mod-lt c some in omega (arith, within)

-- how many bits a value of a size has
abbrev pub bits_of : Size → ℕ
bits_of s = 8 * bytes_of s

pub some-bits : (s : Size) → s ≢ Zero → 0 < bits_of s
some-bits Zero some = absurd (some refl)
some-bits One some = omega arith
some-bits Two some = omega arith
some-bits Four some = omega arith

half-is : (s : Size) → s ≢ Zero → 2 ^ (bits_of s - 1) ≡ half s
half-is Zero some = absurd (some refl)
half-is One some = refl
half-is Two some = refl
half-is Four some = refl

pub all-is : (s : Size) → 2 ^ bits_of s ≡ modulus s
all-is Zero = refl
all-is One = refl
all-is Two = refl
all-is Four = refl

-- rotations of a value alone
abbrev pub ro_left : Size → ℕ → Bool → ℕ → Shifting
ro_left s v x c = record { value = to_left (bits_of s) v c; out = not (c == 0) && (to_left (bits_of s) v c % 2 == 1); x = x; changed = false }

abbrev pub ro_right : Size → ℕ → Bool → ℕ → Shifting
ro_right s v x c = record { value = to_right (bits_of s) v c; out = not (c == 0) && nat_le (half s) (to_right (bits_of s) v c); x = x; changed = false }

ro_left_once : (s : Size) (v : ℕ) (x : Bool) (c : ℕ) → s ≢ Zero → v < modulus s → once Ro true s (ro_left s v x c) ≡ ro_left s v x (c + 1)
ro_left_once s v x c some small =
    rw (
      left_step (bits_of s) v c (half s) (modulus s) (some-bits s some) (half-is s some) (all-is s) small,
      left_bit (bits_of s) v c (half s) (modulus s) (some-bits s some) (half-is s some) (all-is s) small,
      not-first c,
    ) refl

ro_right_once : (s : Size) (v : ℕ) (x : Bool) (c : ℕ) → s ≢ Zero → v < modulus s → once Ro false s (ro_right s v x c) ≡ ro_right s v x (c + 1)
ro_right_once s v x c some small =
    rw (
      right_step (bits_of s) v c (half s) (modulus s) (some-bits s some) (half-is s some) (all-is s) small,
      right_bit (bits_of s) v c (half s) (modulus s) (some-bits s some) (half-is s some) (all-is s) small,
      not-first c,
    ) refl

pub ro_left_all : (s : Size) (v : ℕ) (old : Ccr) (c : ℕ) → s ≢ Zero → iterate (once Ro true s) c (begun Ro s v old) ≡ ro_left s (truncated v s) old.x c
ro_left_all s v old zero some =
    let small : truncated v s < 2 ^ bits_of s = subst (λ n. truncated v s < n) (sym (all-is s)) (cut s v) in
    let start : to_left (bits_of s) (truncated v s) 0 ≡ truncated v s = left-start (bits_of s) (truncated v s) small in
    rw start refl
ro_left_all s v old (suc c) some =
    let more : suc c ≡ c + 1 = omega arith in
    ap (λ k. iterate (once Ro true s) k (begun Ro s v old)) more ∙ iterate-more (once Ro true s) c (begun Ro s v old)
    ∙ ap (once Ro true s) (ro_left_all s v old c some) ∙ ro_left_once s (truncated v s) old.x c some (cut s v) ∙ ap (ro_left s (truncated v s) old.x) (sym more)

pub ro_right_all : (s : Size) (v : ℕ) (old : Ccr) (c : ℕ) → s ≢ Zero → iterate (once Ro false s) c (begun Ro s v old) ≡ ro_right s (truncated v s) old.x c
ro_right_all s v old zero some =
    let start : to_right (bits_of s) (truncated v s) 0 ≡ truncated v s = right-start (bits_of s) (truncated v s) in rw start refl
ro_right_all s v old (suc c) some =
    let more : suc c ≡ c + 1 = omega arith in
    ap (λ k. iterate (once Ro false s) k (begun Ro s v old)) more ∙ iterate-more (once Ro false s) c (begun Ro s v old)
    ∙ ap (once Ro false s) (ro_right_all s v old c some) ∙ ro_right_once s (truncated v s) old.x c some (cut s v) ∙ ap (ro_right s (truncated v s) old.x) (sym more)

-- rotations of a value with X as one bit more above it
abbrev pub through : Size → ℕ → Shifting
through s u = record { value = u % modulus s; out = nat_le (modulus s) u; x = nat_le (modulus s) u; changed = false }

pub double-is : (s : Size) → 2 ^ (bits_of s + 1) ≡ 2 * modulus s
double-is Zero = refl
double-is One = refl
double-is Two = refl
double-is Four = refl

whole-is : (s : Size) → 2 ^ (bits_of s + 1 - 1) ≡ modulus s
whole-is Zero = refl
whole-is One = refl
whole-is Two = refl
whole-is Four = refl

left-value : (s : Size) (u : ℕ) → s ≢ Zero → u < 2 * modulus s
    → (2 * (u % modulus s) + from_bool (nat_le (modulus s) u)) % modulus s ≡ (2 * u + from_bool (nat_le (modulus s) u)) % (2 * modulus s) % modulus s
left-value Zero u some small = absurd (some refl)
left-value One u some small = grind (arith, nat_tests, small)
left-value Two u some small = grind (arith, nat_tests, small)
left-value Four u some small = grind (arith, nat_tests, small)

left-out : (s : Size) (u : ℕ) → s ≢ Zero → u < 2 * modulus s
    → nat_le (half s) (u % modulus s) ≡ nat_le (modulus s) ((2 * u + from_bool (nat_le (modulus s) u)) % (2 * modulus s))
left-out Zero u some small = absurd (some refl)
left-out One u some small = grind (arith, nat_tests, small)
left-out Two u some small = grind (arith, nat_tests, small)
left-out Four u some small = grind (arith, nat_tests, small)

right-value : (s : Size) (u : ℕ) → s ≢ Zero → u < 2 * modulus s
    → u % modulus s / 2 + from_bool (nat_le (modulus s) u) * half s ≡ (u / 2 + from_bool (u % 2 == 1) * modulus s) % modulus s
right-value Zero u some small = absurd (some refl)
right-value One u some small = grind (arith, nat_tests, small)
right-value Two u some small = grind (arith, nat_tests, small)
right-value Four u some small = grind (arith, nat_tests, small)

right-out : (s : Size) (u : ℕ) → s ≢ Zero → u < 2 * modulus s
    → (u % modulus s % 2 == 1) ≡ nat_le (modulus s) (u / 2 + from_bool (u % 2 == 1) * modulus s)
right-out Zero u some small = absurd (some refl)
right-out One u some small = grind (arith, nat_tests, small)
right-out Two u some small = grind (arith, nat_tests, small)
right-out Four u some small = grind (arith, nat_tests, small)

through-left : (s : Size) (u next : ℕ) → s ≢ Zero → u < 2 * modulus s → (2 * u + from_bool (nat_le (modulus s) u)) % (2 * modulus s) ≡ next
    → once Rox true s (through s u) ≡ through s next
through-left s u next some small is = rw (left-value s u some small, left-out s u some small, is) refl

through-right : (s : Size) (u next : ℕ) → s ≢ Zero → u < 2 * modulus s → u / 2 + from_bool (u % 2 == 1) * modulus s ≡ next
    → once Rox false s (through s u) ≡ through s next
through-right s u next some small is = rw (right-value s u some small, right-out s u some small, is) refl

-- X above the value
abbrev pub with_extend : Size → ℕ → Bool → ℕ
with_extend s v x = from_bool x * modulus s + v

pub extended-below : (s : Size) (v : ℕ) (x : Bool) → v < modulus s → with_extend s v x < 2 * modulus s
extended-below s v true small = omega (arith, small)
extended-below s v false small = omega (arith, small)

extended-value : (s : Size) (v : ℕ) (x : Bool) → v < modulus s → with_extend s v x % modulus s ≡ v
extended-value s v x small = mod-mul-add (from_bool x) (modulus s) v small

extended-bit : (s : Size) (v : ℕ) (x : Bool) → v < modulus s → nat_le (modulus s) (with_extend s v x) ≡ x
extended-bit s v true small = let some : modulus s ≤ 1 * modulus s + v = omega arith in grind (arith, nat_tests, some)
extended-bit s v false small = let none : 0 * modulus s + v < modulus s = omega (arith, small) in grind (arith, nat_tests, none)

left-below : (w v c m : ℕ) → 0 < w → 2 ^ w ≡ m → v < m → to_left w v c < m
left-below w v c m some all small =
    let within : c % w < w = mod-lt c some in
    let fits : v < 2 ^ w = rw all small in
    subst (λ n. to_left w v c < n) all (turned-within w (c % w) v (omega (arith, within)) fits)

right-below : (w v c m : ℕ) → 0 < w → 2 ^ w ≡ m → v < m → to_right w v c < m
right-below w v c m some all small =
    let fits : v < 2 ^ w = rw all small in
    subst (λ n. turned v (2 ^ (w - c % w)) (2 ^ n) < m) (rest-back w c some)
    (subst (λ n. turned v (2 ^ (w - c % w)) (2 ^ (w - (w - c % w))) < n) all (turned-within w (w - c % w) v (omega arith) fits))

pub more-bits : (s : Size) → 0 < bits_of s + 1
more-bits s = omega arith

pub rox_left_all : (s : Size) (v : ℕ) (old : Ccr) (c : ℕ) → s ≢ Zero
    → iterate (once Rox true s) c (begun Rox s v old) ≡ through s (to_left (bits_of s + 1) (with_extend s (truncated v s) old.x) c)
rox_left_all s v old zero some =
    let y = with_extend s (truncated v s) old.x in
    let small : y < 2 ^ (bits_of s + 1) = subst (λ n. y < n) (sym (double-is s)) (extended-below s (truncated v s) old.x (cut s v)) in
    let start : to_left (bits_of s + 1) y 0 ≡ y = left-start (bits_of s + 1) y small in
    rw (start, extended-value s (truncated v s) old.x (cut s v), extended-bit s (truncated v s) old.x (cut s v)) refl
rox_left_all s v old (suc c) some =
    let more : suc c ≡ c + 1 = omega arith in
    let y = with_extend s (truncated v s) old.x in
    let small : y < 2 * modulus s = extended-below s (truncated v s) old.x (cut s v) in
    ap (λ k. iterate (once Rox true s) k (begun Rox s v old)) more ∙ iterate-more (once Rox true s) c (begun Rox s v old)
    ∙ ap (once Rox true s) (rox_left_all s v old c some)
    ∙ through-left s (to_left (bits_of s + 1) y c) (to_left (bits_of s + 1) y (c + 1)) some (left-below (bits_of s + 1) y c (2 * modulus s) (more-bits s) (double-is s) small)
    (left_step (bits_of s + 1) y c (modulus s) (2 * modulus s) (more-bits s) (whole-is s) (double-is s) small)
    ∙ ap (λ k. through s (to_left (bits_of s + 1) y k)) (sym more)

pub rox_right_all : (s : Size) (v : ℕ) (old : Ccr) (c : ℕ) → s ≢ Zero
    → iterate (once Rox false s) c (begun Rox s v old) ≡ through s (to_right (bits_of s + 1) (with_extend s (truncated v s) old.x) c)
rox_right_all s v old zero some =
    let y = with_extend s (truncated v s) old.x in
    let start : to_right (bits_of s + 1) y 0 ≡ y = right-start (bits_of s + 1) y in
    rw (start, extended-value s (truncated v s) old.x (cut s v), extended-bit s (truncated v s) old.x (cut s v)) refl
rox_right_all s v old (suc c) some =
    let more : suc c ≡ c + 1 = omega arith in
    let y = with_extend s (truncated v s) old.x in
    let small : y < 2 * modulus s = extended-below s (truncated v s) old.x (cut s v) in
    ap (λ k. iterate (once Rox false s) k (begun Rox s v old)) more ∙ iterate-more (once Rox false s) c (begun Rox s v old)
    ∙ ap (once Rox false s) (rox_right_all s v old c some)
    ∙ through-right s (to_right (bits_of s + 1) y c) (to_right (bits_of s + 1) y (c + 1)) some (right-below (bits_of s + 1) y c (2 * modulus s) (more-bits s) (double-is s) small)
    (right_step (bits_of s + 1) y c (modulus s) (2 * modulus s) (more-bits s) (whole-is s) (double-is s) small)
    ∙ ap (λ k. through s (to_right (bits_of s + 1) y k)) (sym more)
