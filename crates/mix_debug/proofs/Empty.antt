-- Ranges of no bytes.
use Rattle.std.proofs.Common.{◌≡◌, ℕ, ◌-◌, ◌≤◌, List, [], ◌++◌, length, take, drop, arith, ap, sym, ◌∙◌, refl}
use Rattle.std.proofs.lemmas.List.{drop_all, length-take, take_all}
use Rattle.big_memory.specs.Lists.{part, put}
use Rattle.big_memory.proofs.Lists.{put-nil}
use Rattle.mix_debug.specs.declared.head.Span.{Span}
use Rattle.mix_debug.specs.Changes.{Run, runs_from}
use Rattle.mix_debug.specs.WrittenBack.{olds_of}
use Rattle.mix_debug.specs.inner.WrittenBack.{runs_in}
use Rattle.mix_debug.specs.Entries.{spans_of}

runs-of_none : (at : ℕ) (ys : List ℕ) → runs_from at [] ys ≡ []
unfolding runs_from
runs-of_none at ys = refl

pub runs_empty : (low high : ℕ) (old new : List ℕ) → low ≡ high → runs_in low high old new ≡ []
runs_empty low high old new same =
    let few : length (take high old) ≤ low = omega (arith, length-take high old, same) in
    ap (λ xs. runs_from low xs (drop low (take high new))) (drop_all low (take high old) few) ∙ runs-of_none low (drop low (take high new))

-- they have no bytes, and a ring stays as it is
pub no_olds : (rs : List Run) → rs ≡ [] → 0 ≡ length (olds_of rs)
unfolding olds_of
no_olds rs none = sym (ap (λ (x : List Run). length (olds_of x)) none)

pub spans_stay : (rs : List Run) (room : ℕ) (spans : List Span) → rs ≡ [] → length spans ≤ room → spans ≡ take room (spans_of rs ++ spans)
unfolding spans_of
spans_stay rs room spans none fits = sym (ap (λ (x : List Run). take room (spans_of x ++ spans)) none ∙ take_all room spans fits)

pub olds_stay : (rs : List Run) (room : ℕ) (olds : List ℕ) → rs ≡ [] → length olds ≤ room → olds ≡ take room (olds_of rs ++ olds)
unfolding olds_of
olds_stay rs room olds none fits = sym (ap (λ (x : List Run). take room (olds_of x ++ olds)) none ∙ take_all room olds fits)

-- none is copied
pub none_copied : (low high : ℕ) (bytes copy : List ℕ) → low ≡ high → copy ≡ put low (part low (high - low) bytes) copy
none_copied low high bytes copy same =
    let none : high - low ≡ 0 = omega (arith, same) in
    sym (ap (λ (n : ℕ). put low (part low n bytes) copy) none ∙ put-nil low copy)
