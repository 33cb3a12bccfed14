-- Shifts that zeros follow, at once.
use Rattle.std.proofs.Common.{ℕ, ◌≡◌, ◌≢◌, ◌+◌, ◌-◌, ◌*◌, ◌/◌, ◌%◌, ◌^◌, ◌<◌, ◌≤◌, ◌==◌, ◌⊎◌, inl, inr, Bool, true, false, zero, suc, refl, sym, ap, ◌∙◌, arith}
use Rattle.std.specs.Prelude.{nat_le, if◌then◌else◌}
use Rattle.std.specs.Fn.{iterate}
use Rattle.std.specs.Int.{from_bool}
use Rattle.std.proofs.Math.Nat.{div-div-eq-div-mul, two-pow-succ}
use Rattle.std.proofs.lemmas.Nat.{pow-add, pow_pos}
use Rattle.mix_bits.specs.Signs.{half}
use Rattle.std.proofs.lemmas.Bool.Decides.{nat_tests}
use Rattle.mix_bits.specs.declared.size.Size.{Size}
use Rattle.mix_bits.specs.declared.size.Size.TheVariants.{Zero, One, Two, Four}
use Rattle.mix_bits.specs.Sizes.{modulus, truncated}
use Rattle.m68_isa.specs.declared.instructions.ShiftOp.TheVariants.{Ls}
use Rattle.m68_isa.specs.declared.registers.Ccr.{Ccr}
use Rattle.m68_alu.specs.declared.shifts.Shifting.{Shifting}
use Rattle.m68_alu.specs.Shifts.{begun, once}
use Rattle.m68_alu.proofs.Repeats.{iterate-more}

-- with a value, and the bit that went out last
abbrev pub after : ℕ → Bool → Bool → ℕ → Shifting
after value out old count = record { value = value; out = out; x = if count == 0 then old else out; changed = false }

pub half-twice : (v p : ℕ) → 0 < p → 2 * v / (2 * p) ≡ v / p
half-twice v p some = grind arith

pub halves : (v p : ℕ) → v / (2 * p) ≡ v / p / 2
halves v p = let turned : 2 * p ≡ p * 2 = omega arith in rw turned (sym (div-div-eq-div-mul v p 2))

pub pow-more : (c : ℕ) → 2 ^ (c + 1) ≡ 2 * 2 ^ c
pow-more c = let more : c + 1 ≡ suc c = omega arith in let two : 2 ^ suc c ≡ 2 ^ c + 2 ^ c = two-pow-succ c in ap (λ k. 2 ^ k) more ∙ two ∙ omega arith

pub not-first : (c : ℕ) → (c + 1 == 0) ≡ false
not-first c = grind (arith, nat_tests)

abbrev pub right_after : ℕ → Bool → ℕ → Shifting
right_after v x c = after (v / 2 ^ c) (2 * v / 2 ^ c % 2 == 1) x c

right_once : (s : Size) (v : ℕ) (x : Bool) (c : ℕ) → once Ls false s (right_after v x c) ≡ right_after v x (c + 1)
right_once s v x c =
    let more : 2 ^ (c + 1) ≡ 2 * 2 ^ c = pow-more c in
    let down : v / 2 ^ (c + 1) ≡ v / 2 ^ c / 2 = rw more (halves v (2 ^ c)) in
    let out : 2 * v / 2 ^ (c + 1) ≡ v / 2 ^ c = rw more (half-twice v (2 ^ c) (pow_pos c)) in
    let later : (c + 1 == 0) ≡ false = not-first c in
    let plain : v / 2 ^ c / 2 + from_bool false * half s ≡ v / 2 ^ c / 2 = omega arith in
    rw (down, out, later, plain) refl

pub right_all : (s : Size) (v : ℕ) (old : Ccr) (c : ℕ) → iterate (once Ls false s) c (begun Ls s v old) ≡ right_after (truncated v s) old.x c
right_all s v old zero =
    let whole : truncated v s / 2 ^ 0 ≡ truncated v s = omega arith in
    let none : (2 * truncated v s / 2 ^ 0 % 2 == 1) ≡ false = grind (arith, nat_tests) in
    rw (whole, none) refl
right_all s v old (suc c) =
    let more : suc c ≡ c + 1 = omega arith in
    ap (λ k. iterate (once Ls false s) k (begun Ls s v old)) more ∙ iterate-more (once Ls false s) c (begun Ls s v old)
    ∙ ap (once Ls false s) (right_all s v old c) ∙ right_once s (truncated v s) old.x c ∙ ap (right_after (truncated v s) old.x) (sym more)

abbrev pub left_after : Size → ℕ → Bool → ℕ → Shifting
left_after s w x c = after (w % modulus s) (w / modulus s % 2 == 1) x c

-- the double of a number, cut to a size
pub doubled : (s : Size) (w : ℕ) → s ≢ Zero → (2 * (w % modulus s) + from_bool false) % modulus s ≡ 2 * w % modulus s
doubled Zero w some = absurd (some refl)
doubled One w some = omega arith
doubled Two w some = omega arith
doubled Four w some = omega arith

-- and the bit that leaves it
pub carried : (s : Size) (w : ℕ) → s ≢ Zero → nat_le (half s) (w % modulus s) ≡ (2 * w / modulus s % 2 == 1)
carried Zero w some = absurd (some refl)
carried One w some = grind (arith, nat_tests)
carried Two w some = grind (arith, nat_tests)
carried Four w some = grind (arith, nat_tests)

left_once : (s : Size) (v : ℕ) (x : Bool) (c : ℕ) → s ≢ Zero → once Ls true s (left_after s (v * 2 ^ c) x c) ≡ left_after s (v * 2 ^ (c + 1)) x (c + 1)
left_once s v x c some =
    let p = 2 ^ c in
    let wide : v * 2 ^ (c + 1) ≡ 2 * (v * 2 ^ c) = rw (pow-more c) (grind arith) in
    let later : (c + 1 == 0) ≡ false = not-first c in
    rw (wide, later, doubled s (v * 2 ^ c) some, carried s (v * 2 ^ c) some) refl

pub cut : (s : Size) (v : ℕ) → truncated v s < modulus s
cut Zero v = omega arith
cut One v = omega arith
cut Two v = omega arith
cut Four v = omega arith

pub unchanged : (s : Size) (v : ℕ) → v < modulus s → v * 1 % modulus s ≡ v
unchanged Zero v small = omega arith
unchanged One v small = omega arith
unchanged Two v small = omega arith
unchanged Four v small = omega arith

pub kept : (s : Size) (v : ℕ) → v < modulus s → (v * 1 / modulus s % 2 == 1) ≡ false
kept Zero v small = grind (arith, nat_tests)
kept One v small = grind (arith, nat_tests)
kept Two v small = grind (arith, nat_tests)
kept Four v small = grind (arith, nat_tests)

pub left_all : (s : Size) (v : ℕ) (old : Ccr) (c : ℕ) → s ≢ Zero → iterate (once Ls true s) c (begun Ls s v old) ≡ left_after s (truncated v s * 2 ^ c) old.x c
left_all s v old zero some =
    let small : truncated v s < modulus s = cut s v in
    let whole : truncated v s * 2 ^ 0 % modulus s ≡ truncated v s = unchanged s (truncated v s) small in
    let none : (truncated v s * 2 ^ 0 / modulus s % 2 == 1) ≡ false = kept s (truncated v s) small in
    rw (whole, none) refl
left_all s v old (suc c) some =
    let more : suc c ≡ c + 1 = omega arith in
    ap (λ k. iterate (once Ls true s) k (begun Ls s v old)) more ∙ iterate-more (once Ls true s) c (begun Ls s v old)
    ∙ ap (once Ls true s) (left_all s v old c some) ∙ left_once s (truncated v s) old.x c some ∙ ap (λ k. left_after s (truncated v s * 2 ^ k) old.x k) (sym more)

pub none_below : (s : Size) (y : ℕ) → s ≢ Zero → y * 8589934592 % modulus s ≡ 0
none_below Zero y some = absurd (some refl)
none_below One y some = omega arith
none_below Two y some = omega arith
none_below Four y some = omega arith

pub none_out : (s : Size) (y : ℕ) → s ≢ Zero → y * 8589934592 / modulus s % 2 ≡ 0
none_out Zero y some = absurd (some refl)
none_out One y some = omega arith
none_out Two y some = omega arith
none_out Four y some = omega arith

-- behind more shifts than a long has bits no bit of the value is left
far : (s : Size) (v c : ℕ) (x : Bool) → s ≢ Zero → 32 < c → left_after s (v * 2 ^ c) x c ≡ left_after s 0 x c
far s v c x some many =
    let rest : 2 ^ c ≡ 2 ^ (c - 33) * 2 ^ 33 = (let parts : c ≡ c - 33 + 33 = omega arith in ap (λ k. 2 ^ k) parts ∙ pow-add 2 (c - 33) 33) in
    let wide : v * 2 ^ c ≡ v * 2 ^ (c - 33) * 8589934592 = rw rest (grind arith) in
    let value : v * 2 ^ (c - 33) * 8589934592 % modulus s ≡ 0 = none_below s (v * 2 ^ (c - 33)) some in
    let out : v * 2 ^ (c - 33) * 8589934592 / modulus s % 2 ≡ 0 = none_out s (v * 2 ^ (c - 33)) some in
    let zero-value : 0 % modulus s ≡ 0 = none_below s 0 some in
    let zero-out : 0 / modulus s % 2 ≡ 0 = none_out s 0 some in
    rw (wide, value, out, zero-value, zero-out) refl

pub few-or-many : (a b : ℕ) → (a ≤ b) ⊎ (b < a)
few-or-many zero b = inl (omega arith)
few-or-many (suc a) zero = inr (omega arith)
few-or-many (suc a) (suc b) = elim (few-or-many a b) [ inl few ↦ inl (omega (arith, few)) | inr many ↦ inr (omega (arith, many)) ]

-- the closed form for a wide number that is 0 there
pub left_wide : (s : Size) (v w : ℕ) (old : Ccr) (c : ℕ) → s ≢ Zero → (c < 33 → w ≡ truncated v s * 2 ^ c) → (32 < c → w ≡ 0)
    → left_after s w old.x c ≡ iterate (once Ls true s) c (begun Ls s v old)
left_wide s v w old c some near many =
    elim (few-or-many c 32) [ inl h ↦ ap (λ k. left_after s k old.x c) (near (omega (arith, h))) ∙ sym (left_all s v old c some) | inr h ↦ ap (λ k. left_after s k old.x c) (many h) ∙ sym (far s (truncated v s) c old.x some h) ∙ sym (left_all s v old c some) ]
