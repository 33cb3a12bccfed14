-- No two of the names are the same: counted over the list.
use Rattle.std.proofs.Common.{◌≡◌, ◌≢◌, ℕ, List, length, Bool, true, false, refl, sym, ap, ◌∙◌}
use Rattle.std.specs.Cmp.{IsEquivalence}
use Rattle.std.specs.List.{AllPairs}
use Rattle.std.specs.Set.{distinct_count}
use Rattle.std.specs.Str.{bytes_eq}
use Rattle.std.proofs.lemmas.Map.Made.{AllPairs-from_IsDistinct, IsDistinct-from_count}
use Rattle.std.proofs.lemmas.Slice.Eq.{bytes_eq-Decides}
use Rattle.ppc_text.specs.Listed.{names, shapes}

both_ways : (m n : List ℕ) (b c : Bool) → bytes_eq m n ≡ b → bytes_eq n m ≡ c → b ≡ c
both_ways m n true true e f = refl
both_ways m n true false e f = sym ((bytes_eq-Decides n m).1 (sym ((bytes_eq-Decides m n).0 e))) ∙ f
both_ways m n false true e f = sym e ∙ (bytes_eq-Decides m n).1 (sym ((bytes_eq-Decides n m).0 f))
both_ways m n false false e f = refl

alike : IsEquivalence bytes_eq
alike = record {
  refl = λ m. (bytes_eq-Decides m m).1 refl;
  symm = λ m n. both_ways m n (bytes_eq m n) (bytes_eq n m) refl refl;
  congr = λ m n o e. ap (λ k. bytes_eq k o) ((bytes_eq-Decides m n).0 e);
}

counted : distinct_count bytes_eq names ≡ length names
unfolding names shapes
counted = refl

pub names_apart : AllPairs (λ m n. m ≢ n) names
names_apart = AllPairs-from_IsDistinct bytes_eq-Decides names (IsDistinct-from_count alike names counted)
