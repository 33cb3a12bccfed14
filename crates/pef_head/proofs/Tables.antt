-- A symbol that is in one library.
use Rattle.std.proofs.Common.{◌≡◌, ◌≢◌, ◌∙◌, sym, ap, refl, ℕ, ◌+◌, ◌<◌, ◌≤◌, Bool, true, false, ◌&&◌, nat_eq, nat_lt, Option, Some, None, unwrap_or, List, length, slice_index, slice_set, add-one, arith, subst}
use Rattle.std.proofs.lemmas.Bool.Decides.{nat_tests}
use Rattle.std.proofs.lemmas.List.{get_or-set_same, get_or-set_other}
use Rattle.pef_head.specs.declared.loader.Loader.{Loader}
use Rattle.pef_head.specs.inner.Owners.{AreOwned}
use Rattle.pef_head.specs.Owners.{owners}
use Rattle.pef_head.specs.PartsByNumber.{owner_of}
use Rattle.pef_head.specs.Places.{holds, symbols_start, symbols_end}
use Rattle.mix_bits.specs.SearchOperator.{◌or◌}
use Rattle.mix_bits.specs.Search.{refused, least, count_below}
use Rattle.pef_head.specs.Whole.{OnlyBelow}
use Rattle.pef_head.proofs.Counts.{only_counted}
use Rattle.pef_head.proofs.Marking.{before_first, held_before}
use Rattle.mix_bits.proofs.Searches.{least_first, least_none}

module _ (test : ℕ → Bool) (n : ℕ) (one : count_below test n ≡ 1) where
  only : OnlyBelow test n
  only = only_counted test n one

  before : (k : ℕ) → k < only.0 → test k ≡ false
  before k lt = by (test k) refl
    where
      by : (t : Bool) → test k ≡ t → test k ≡ false
      by false q = q
      by true q =
          let same : k ≡ only.0 = only.3 k (omega (arith, lt, only.1)) q in
          absurd (omega (arith, lt, same))

  found : least test n ≡ Some only.0
  found = least_first test n only.0 only.1 before only.2

  alone : (j : ℕ) → j < n → test j ≡ true → least test j ≡ None
  alone j lt passes =
      let same : j ≡ only.0 = only.3 j lt passes in
      least_none test j (λ k below. before k (omega (arith, below, same)))

-- no library before it has the symbol
pub owned_alone : (bytes : List ℕ) (l : Loader) (i j : ℕ) → AreOwned bytes l → i < l.symbols → j < l.libraries → holds bytes l i j ≡ true → least (holds bytes l i) j ≡ None
owned_alone bytes l i j owned lt below has = alone (holds bytes l i) l.libraries (owned i lt) j below has

-- the library's number
pub owner_below : (bytes : List ℕ) (l : Loader) (i : ℕ) → owners bytes l l.libraries i ≡ 1 → owner_of bytes l i < l.libraries
owner_below bytes l i one =
    let is : owner_of bytes l i ≡ (only (holds bytes l i) l.libraries one).0 = ap (λ (o : Option ℕ). unwrap_or o 0) (found (holds bytes l i) l.libraries one) in
    omega (arith, is, (only (holds bytes l i) l.libraries one).1)

-- one more symbol of the library is written
pub filled_step : (bytes : List ℕ) (l : Loader) (table : List ℕ) (i j k : ℕ) → AreOwned bytes l → j < l.libraries → length table ≡ l.symbols
    → symbols_start bytes l j ≤ i → i < symbols_end bytes l j → i < l.symbols → k < l.symbols
    → slice_index table k ≡ unwrap_or (least (holds bytes l k) j or refused (holds bytes l k j && nat_lt k i) j) 0
    → slice_index (slice_set table i j) k ≡ unwrap_or (least (holds bytes l k) j or refused (holds bytes l k j && nat_lt k (i + 1)) j) 0
filled_step bytes l table i j k owned below len low high inside lt before = by (nat_eq k i) refl
  where
    by : (b : Bool) → nat_eq k i ≡ b
        → slice_index (slice_set table i j) k ≡ unwrap_or (least (holds bytes l k) j or refused (holds bytes l k j && nat_lt k (i + 1)) j) 0
    by true q =
        let same : k ≡ i = grind (arith, nat_tests) in
        let has : holds bytes l k j ≡ true = grind (arith, nat_tests) in
        let none : least (holds bytes l k) j ≡ None = owned_alone bytes l k j owned lt below has in
        let next : nat_lt k (i + 1) ≡ true = grind (arith, nat_tests) in
        rw (none, has, next) (subst (λ (m : ℕ). slice_index (slice_set table i j) m ≡ j) (sym same) (get_or-set_same table i j 0 (omega (arith, inside, len))))
    by false q =
        let other : k ≢ i = grind (arith, nat_tests) in
        let same : nat_lt k i ≡ nat_lt k (i + 1) = grind (arith, nat_tests) in
        get_or-set_other table i k j 0 other
        ∙ (before ∙ ap (λ (t : Bool). unwrap_or (least (holds bytes l k) j or refused (holds bytes l k j && t) j) 0) same)

or_nothing : (o : Option ℕ) → o ≡ (o or None)
or_nothing None = refl
or_nothing (Some k) = refl

-- before the first symbol of a library nothing more is written
pub filled_start : (bytes : List ℕ) (l : Loader) (table : List ℕ) (j k first : ℕ) → first ≡ symbols_start bytes l j → slice_index table k ≡ unwrap_or (least (holds bytes l k) j) 0
    → slice_index table k ≡ unwrap_or (least (holds bytes l k) j or refused (holds bytes l k j && nat_lt k first) j) 0
filled_start bytes l table j k first is before =
    let none : (holds bytes l k j && nat_lt k first) ≡ false =
    before_first (symbols_start bytes l j) (symbols_end bytes l j) first k (λ (le : symbols_start bytes l j ≤ k). omega (arith, is, le)) in
    before ∙ ap (λ (o : Option ℕ). unwrap_or o 0) (or_nothing (least (holds bytes l k) j) ∙ ap (λ (t : Bool). least (holds bytes l k) j or refused t j) (sym none))

-- and in the end all of its symbols are
pub filled_end : (bytes : List ℕ) (l : Loader) (table : List ℕ) (j k i : ℕ) → (holds bytes l k j ≡ true → k < i)
    → slice_index table k ≡ unwrap_or (least (holds bytes l k) j or refused (holds bytes l k j && nat_lt k i) j) 0 → slice_index table k ≡ unwrap_or (least (holds bytes l k) (j + 1)) 0
filled_end bytes l table j k i below before =
    before ∙ (ap (λ (t : Bool). unwrap_or (least (holds bytes l k) j or refused t j) 0) (sym (held_before (holds bytes l k j) k i below))
    ∙ ap (λ (n : ℕ). unwrap_or (least (holds bytes l k) n) 0) (sym (add-one j)))
