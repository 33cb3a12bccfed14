-- Zeros, as many as there are sections and imports.
use Rattle.std.proofs.Common.{◌≡◌, ◌∙◌, refl, sym, ap, subst, ℕ, zero, suc, ◌<◌, List, length, slice_index, replicate}
use Rattle.std.proofs.lemmas.List.{length-replicate}
use Rattle.pef_head.specs.Container.{instantiated_count}
use Rattle.pef_head.specs.Parts.{import_count}
use Rattle.mix_load.specs.laws.Sections.{total_at}
use Rattle.look_words.specs.inner.Unmade.{HasSizes}
use Rattle.look_words.proofs.unmade.zeroed.Goals as goal

zero_in : (n k : ℕ) → slice_index (replicate n 0) k ≡ 0
zero_in zero zero = refl
zero_in zero (suc k) = refl
zero_in (suc n) zero = refl
zero_in (suc n) (suc k) = zero_in n k

zero_at : (n : ℕ) (xs : List ℕ) (k : ℕ) → xs ≡ replicate n 0 → slice_index xs k ≡ 0
zero_at n xs k is = ap (λ (ys : List ℕ). slice_index ys k) is ∙ zero_in n k

has_sizes : (bytes zeros sizes addresses : List ℕ) (count imports : ℕ) → count ≡ instantiated_count bytes → imports ≡ import_count bytes
    → zeros ≡ replicate count 0 → length sizes ≡ count → ((k : ℕ) → k < count → slice_index sizes k ≡ total_at bytes k) → addresses ≡ replicate imports 0
    → HasSizes bytes zeros sizes addresses
has_sizes bytes zeros sizes addresses count imports sections imported bases long each there = record {
  bases = ap (λ (xs : List ℕ). length xs) bases ∙ (length-replicate count 0 ∙ sections);
  low = λ k. zero_at count zeros k bases;
  long = long ∙ sections;
  totals = λ k below. each k (subst (λ (n : ℕ). k < n) (sym sections) below);
  imports = ap (λ (xs : List ℕ). length xs) there ∙ (length-replicate imports 0 ∙ imported);
}

pub returns-clause-sizes : goal.returns-clause-sizes
returns-clause-sizes c =
    has_sizes c.args.pef.now c.in_ok-vec.field-0.items c.in_ok-totals.field-0.items c.in_ok-vec-2.field-0.items c.sections-count.result c.imports.result
    c.sections-count.ensures.is c.imports.ensures.is (c.in_ok-vec.ensures.items_if_clones_equal (λ y is. is)) c.in_ok-totals.ensures.long
    c.in_ok-totals.ensures.each (c.in_ok-vec-2.ensures.items_if_clones_equal (λ y is. is))
