-- The bits of marks.
use Rattle.std.proofs.Common.{◌≡◌, ◌≢◌, ◌∙◌, ap, subst, refl, ℕ, zero, suc, ◌*◌, ◌/◌, ◌%◌, ◌^◌, ◌<◌, Bool, true, false, ◌&&◌, ◌||◌, ◌==◌, nat_eq, List, length, replicate, slice_index, slice_set, arith}
use Rattle.std.specs.Int.{bit_at, w64}
use Rattle.std.specs.Int.RustNames.{bit_or}
use Rattle.std.proofs.lemmas.Bool.Decides.{nat_tests}
use Rattle.std.proofs.lemmas.List.{get_or-set_same, get_or-set_other}
use Rattle.std.proofs.lemmas.Nat.Bits.{bit_at-zero, bit_at_set_same, bit_at_set_other}
use Rattle.pef_head.specs.declared.marks.Marks.{Marks}
use Rattle.pef_head.specs.inner.Marks.{is_marked}

or_no : (b : Bool) → b ≡ (b || false)
or_no true = refl
or_no false = refl

or_yes : (b : Bool) → true ≡ (b || true)
or_yes true = refl
or_yes false = refl

zero_word : (n k : ℕ) → slice_index (replicate n 0) k ≡ 0
zero_word zero k = refl
zero_word (suc n) zero = refl
zero_word (suc n) (suc k) = zero_word n k

pub none_marked : (n k : ℕ) → is_marked (record { words = replicate n 0 }) k ≡ false
unfolding is_marked
none_marked n k = rw (zero_word n (k / 64), bit_at-zero (k % 64)) refl

-- one bit of one word is set
module _ (words : List ℕ) (place bit : ℕ) (inside : place < length words) (within : bit < 64) where
  abbrev word : ℕ
  word = bit_or (slice_index words place) (1 * 2 ^ bit % 2 ^ 64)

  bit_set : (at i : ℕ) → (bit_at (slice_index (slice_set words place word) at) i == 1)
      ≡ ((bit_at (slice_index words at) i == 1) || (nat_eq place at && nat_eq bit i))
  bit_set at i = by (nat_eq place at) refl (nat_eq bit i) refl
    where
      by : (p : Bool) → nat_eq place at ≡ p → (b : Bool) → nat_eq bit i ≡ b
          → (bit_at (slice_index (slice_set words place word) at) i == 1) ≡ ((bit_at (slice_index words at) i == 1) || (p && b))
      by false q b r =
          let other : at ≢ place = grind (arith, nat_tests) in
          rw (get_or-set_other words place at word 0 other) (or_no _)
      by true q b r = in_word (grind (arith, nat_tests)) b r
        where
          in_word : place ≡ at → (b : Bool) → nat_eq bit i ≡ b
              → (bit_at (slice_index (slice_set words place word) at) i == 1) ≡ ((bit_at (slice_index words at) i == 1) || b)
          in_word same true r =
              let here : slice_index (slice_set words place word) at ≡ word = subst (λ (m : ℕ). slice_index (slice_set words place word) m ≡ word) same (get_or-set_same words place word 0 inside) in
              let bits : bit ≡ i = grind (arith, nat_tests) in
              let one : bit_at word i ≡ 1 = subst (λ (m : ℕ). bit_at word m ≡ 1) bits (bit_at_set_same w64 (slice_index words place) bit within) in
              rw (here, one) (or_yes _)
          in_word same false r =
              let here : slice_index (slice_set words place word) at ≡ word = subst (λ (m : ℕ). slice_index (slice_set words place word) m ≡ word) same (get_or-set_same words place word 0 inside) in
              let other : i ≢ bit = grind (arith, nat_tests) in
              let kept : bit_at word i ≡ bit_at (slice_index words at) i =
              bit_at_set_other w64 (slice_index words place) bit within i other ∙ ap (λ (m : ℕ). bit_at (slice_index words m) i) same in
              rw (here, kept) (or_no _)

same_number : (k i : ℕ) → (nat_eq (k / 64) (i / 64) && nat_eq (k % 64) (i % 64)) ≡ nat_eq k i
same_number k i = grind (arith, nat_tests)

pub marked_too : (marks : Marks) (k : ℕ) → k / 64 < length marks.words → (i : ℕ)
    → is_marked (record { words = slice_set marks.words (k / 64) (bit_or (slice_index marks.words (k / 64)) (1 * 2 ^ (k % 64) % 2 ^ 64)) }) i
    ≡ (is_marked marks i || k == i)
unfolding is_marked
marked_too marks k inside i =
    rw (← same_number k i) (bit_set marks.words (k / 64) (k % 64) inside (omega arith) (i / 64) (i % 64))
