-- Marking the symbols of one library after those of the libraries before it.
use Rattle.std.proofs.Common.{◌≡◌, ◌∙◌, ap, sym, refl, ℕ, ◌+◌, ◌-◌, ◌<◌, ◌≤◌, Bool, true, false, ◌&&◌, ◌||◌, nat_eq, nat_le, nat_lt, List, add-one, eq-eqb, eqb-true, ne_eqb, lt-ltb, le-ltb, le-leb, ltb-true, ltb-false, leb-true, arith}
use Rattle.std.specs.Int.{from_bool}
use Rattle.std.proofs.lemmas.Bool.{and_from, and_parts, and_right, eqb-false}
use Rattle.mix_bits.specs.Search.{count_below}
use Rattle.pef_head.specs.declared.loader.Loader.{Loader}
use Rattle.pef_head.specs.Places.{holds, symbols_end, symbols_start}

pub holds_at : (bytes : List ℕ) (l : Loader) (i j : ℕ) → symbols_start bytes l j ≤ i → i < symbols_end bytes l j → holds bytes l i j ≡ true
holds_at bytes l i j low high = and_from _ _ (le-leb _ _ low) (lt-ltb _ _ high)

pub held_below : (bytes : List ℕ) (l : Loader) (i j : ℕ) → holds bytes l i j ≡ true → i < symbols_end bytes l j
held_below bytes l i j has = ltb-true _ _ (and_parts _ _ has).1

-- no symbol before the first one is looked at
pub before_first : (start end first k : ℕ) → (start ≤ k → first ≤ k) → (nat_le start k && nat_lt k end && nat_lt k first) ≡ false
before_first start end first k behind = by (nat_le start k) refl
  where
    by : (t : Bool) → nat_le start k ≡ t → (t && nat_lt k end && nat_lt k first) ≡ false
    by false q = refl
    by true q = and_right (true && nat_lt k end) (nat_lt k first) (le-ltb k first (behind (leb-true start k q)))

-- each symbol that the library has is looked at in the end
pub held_before : (has : Bool) (k i : ℕ) → (has ≡ true → k < i) → has ≡ (has && nat_lt k i)
held_before true k i before = sym (lt-ltb k i (before refl))
held_before false k i before = refl

-- none of them is marked yet
pub none_yet : (n start end first k : ℕ) (b : Bool) → (start ≤ k → first ≤ k) → n ≡ from_bool b
    → n + from_bool (nat_le start k && nat_lt k end && nat_lt k first) ≡ from_bool b
none_yet n start end first k b behind is = ap (λ (t : Bool). n + from_bool t) (before_first start end first k behind) ∙ omega (arith, is)

or_no : (b : Bool) → (b || false) ≡ b
or_no true = refl
or_no false = refl

next_below : (k i : ℕ) → (k ≡ i → ⊥) → nat_lt k (i + 1) ≡ nat_lt k i
next_below k i other = by (nat_lt k i) refl
  where
    by : (t : Bool) → nat_lt k i ≡ t → nat_lt k (i + 1) ≡ t
    by true q = lt-ltb k (i + 1) (omega (arith, ltb-true k i q))
    by false q = le-ltb k (i + 1) (omega (arith, ltb-false k i q, other))

-- one more symbol is marked
pub marked_next : (n from i k : ℕ) (has old new : Bool) → from ≤ i → from ≤ k → (k ≡ i → has ≡ true) → (k ≡ i → old ≡ false)
    → n + from_bool (has && nat_lt k i) ≡ from_bool old → new ≡ (old || nat_eq (i - from) (k - from)) → n + from_bool (has && nat_lt k (i + 1)) ≡ from_bool new
marked_next n from i k has old new low below here free before is = by (nat_eq k i) refl
  where
    by : (t : Bool) → nat_eq k i ≡ t → n + from_bool (has && nat_lt k (i + 1)) ≡ from_bool new
    by true q =
        let same : k ≡ i = eqb-true k i q in
        let has_it = here same in
        let none = free same in
        let past : nat_lt k i ≡ false = le-ltb k i (omega (arith, same)) in
        let now : nat_lt k (i + 1) ≡ true = lt-ltb k (i + 1) (omega (arith, same)) in
        let at : nat_eq (i - from) (k - from) ≡ true = eq-eqb (i - from) (k - from) (ap (λ (m : ℕ). m - from) (sym same)) in
        let none_before : n + 0 ≡ 0 = rw (has_it, past, none) at before in
        let marked : from_bool new ≡ 1 = ap from_bool (is ∙ (ap (λ (t : Bool). t || nat_eq (i - from) (k - from)) none ∙ at)) in
        ap (λ (t : Bool). n + from_bool (t && nat_lt k (i + 1))) has_it ∙ (ap (λ (t : Bool). n + from_bool t) now ∙ omega (arith, none_before, marked))
    by false q =
        let other : k ≡ i → ⊥ = eqb-false k i q in
        let apart : nat_eq (i - from) (k - from) ≡ false = ne_eqb (i - from) (k - from) (λ (e : i - from ≡ k - from). other (omega (arith, e, low, below))) in
        ap (λ (t : Bool). n + from_bool (has && t)) (next_below k i other)
        ∙ (before ∙ sym (ap from_bool (is ∙ (ap (λ (t : Bool). old || t) apart ∙ or_no old))))

module _ (test : ℕ → Bool) (j : ℕ) where
  -- a symbol before the last one that was looked at
  pub with_library : (k i : ℕ) (b : Bool) → (test j ≡ true → k < i) → count_below test j + from_bool (test j && nat_lt k i) ≡ from_bool b
      → count_below test (j + 1) ≡ from_bool b
  with_library k i b before is =
      ap (count_below test) (add-one j) ∙ (ap (λ (t : Bool). count_below test j + from_bool t) (held_before (test j) k i before) ∙ is)

  -- a symbol that was marked before is in two libraries
  pub in_two : (i : ℕ) (b : Bool) → test j ≡ true → b ≡ true → count_below test j + from_bool (test j && nat_lt i i) ≡ from_bool b → 2 ≤ count_below test (j + 1)
  in_two i b has marked is =
      let not_yet : nat_lt i i ≡ false = le-ltb i i (omega arith) in
      let one : count_below test j + 0 ≡ 1 = rw (has, not_yet, marked) at is in
      let more : count_below test (j + 1) ≡ count_below test j + 1 = ap (count_below test) (add-one j) ∙ ap (λ (t : Bool). count_below test j + from_bool t) has in
      omega (arith, one, more)
