-- The symbols that are in one library, and the first that is not.
use Rattle.std.proofs.Common.{◌≡◌, ◌≢◌, refl, ℕ, ◌<◌, ◌≤◌, Bool, true, false, nat_lt, List, Some, None, eq-eqb, arith}
use Rattle.std.proofs.lemmas.Bool.Decides.{nat_tests}
use Rattle.pef_head.specs.declared.loader.Loader.{Loader}
use Rattle.pef_head.specs.inner.Owners.{AllOwned, IsFirstLost}
use Rattle.pef_head.specs.Owners.{is_lost, owners}
use Rattle.mix_bits.specs.Search.{least}
use Rattle.mix_bits.proofs.Searches.{least_none, least_first}

module _ (bytes : List ℕ) (l : Loader) where
  owned : (i : ℕ) → owners bytes l l.libraries i ≡ 1 → is_lost bytes l i ≡ false
  owned i one = rw (eq-eqb _ _ one) refl

  pub none_lost : AllOwned bytes l 0 l.symbols → least (is_lost bytes l) l.symbols ≡ None
  none_lost all = least_none (is_lost bytes l) l.symbols (λ i lt. owned i (all i (omega arith) lt))

  pub first_lost : (i : ℕ) → AllOwned bytes l 0 i → i < l.symbols → owners bytes l l.libraries i ≢ 1
      → least (is_lost bytes l) l.symbols ≡ Some i
  first_lost i all lt lost =
      let passes : is_lost bytes l i ≡ true = grind (arith, nat_tests) in
      least_first (is_lost bytes l) l.symbols i lt (λ k below. owned k (all k (omega arith) below)) passes

  pub first_lost_after : (from to i : ℕ) → AllOwned bytes l 0 from → IsFirstLost bytes l from to (Some i) → to ≤ l.symbols
      → least (is_lost bytes l) l.symbols ≡ Some i
  first_lost_after from to i before found within = first_lost i all (omega (arith, found.1)) found.2
    where
      all : AllOwned bytes l 0 i
      all k low lt = by (nat_lt k from) refl
        where
          by : (b : Bool) → nat_lt k from ≡ b → owners bytes l l.libraries k ≡ 1
          by true q = before k low (grind (arith, nat_tests))
          by false q = found.3 k (grind (arith, nat_tests)) lt
