-- Runs of bytes in which two lists differ.
use Rattle.std.proofs.Common.{◌≡◌, ℕ, suc, ◌<◌, ◌==◌, List, [], ◌∷◌, ◌++◌, length, inl, inr, arith, ap, sym, ◌∙◌, refl, zero, ◌+◌, ◌≤◌, not, ◌||◌, Bool, true, false, get_or, subst}
use Rattle.std.proofs.lemmas.Bool.{cases_Bool, eq-eqb, eqb-false}
use Rattle.std.proofs.lemmas.Bool.Decides.{nat_tests}
use Rattle.std.proofs.lemmas.List.{append_assoc, length-append, places, same_lists}
use Rattle.big_memory.specs.Lists.{put}
use Rattle.std.specs.List.{list_any}
use Rattle.mix_debug.specs.laws.ChangeLaws.{AreApart, RunsAreMaximal, Undoes, holds}
use Rattle.mix_debug.specs.Changes.{Run, joined, runs_from}
use Rattle.mix_debug.specs.WrittenBack.{undone}

-- a byte and those behind it go in one after another
put-step : (at x : ℕ) (ys b : List ℕ) → at < length b → put at (x ∷ ys) b ≡ put (suc at) ys (put at (x ∷ []) b)
put-step at x ys b within = same_lists _ _ (grind (arith, places)) (λ k d w. grind (arith, places))

undone-joined : (at x : ℕ) (rs : List Run) (b : List ℕ) → at < length b → undone (joined at x rs) b ≡ undone rs (put at (x ∷ []) b)
unfolding joined undone
undone-joined at x [] b within = refl
undone-joined at x (r ∷ rs) b within =
    elim (cases_Bool (r.at == suc at)) [
      | inl next ↦
          let place : r.at ≡ suc at = grind (arith, nat_tests) in
          rw next (ap (undone rs) (put-step at x r.old b within ∙ ap (λ to. put to r.old (put at (x ∷ []) b)) (sym place)))
      | inr apart ↦ rw apart refl
    ]

-- one byte put in behind a front
put-behind : (at x y : ℕ) (front ys : List ℕ) → length front ≡ at → put at (x ∷ []) (front ++ y ∷ ys) ≡ (front ++ x ∷ []) ++ ys
put-behind at x y front ys long = same_lists _ _ (grind (arith, places)) (λ k d w. grind (arith, places))

undone-runs : (at : ℕ) (front old new : List ℕ) → length front ≡ at → length old ≡ length new → undone (runs_from at old new) (front ++ new) ≡ front ++ old
unfolding runs_from undone
undone-runs at front [] [] long same = refl
undone-runs at front [] (y ∷ ys) long same = absurd (omega arith)
undone-runs at front (x ∷ xs) [] long same = absurd (omega arith)
undone-runs at front (x ∷ xs) (y ∷ ys) long same =
    let rest : length xs ≡ length ys = omega arith in
    let next : length (front ++ x ∷ []) ≡ suc at = omega (arith, length-append front (x ∷ [])) in
    let back : undone (runs_from (suc at) xs ys) ((front ++ x ∷ []) ++ ys) ≡ (front ++ x ∷ []) ++ xs = undone-runs (suc at) (front ++ x ∷ []) xs ys next rest in
    elim (cases_Bool (x == y)) [
      | inl equal ↦
          let is : x ≡ y = grind (arith, nat_tests) in
          rw equal (ap (λ v. undone (runs_from (suc at) xs ys) (front ++ v ∷ ys)) (sym is) ∙ ap (undone (runs_from (suc at) xs ys)) (sym (append_assoc front (x ∷ []) ys)) ∙ back ∙ append_assoc front (x ∷ []) xs)
      | inr other ↦
          let inside : at < length (front ++ y ∷ ys) = omega (arith, length-append front (y ∷ ys)) in
          rw other (undone-joined at x (runs_from (suc at) xs ys) (front ++ y ∷ ys) inside ∙ ap (undone (runs_from (suc at) xs ys)) (put-behind at x y front ys long) ∙ back ∙ append_assoc front (x ∷ []) xs)
    ]

pub undoes : Undoes
undoes old new same = undone-runs 0 [] old new refl same

-- no run holds a byte below the first of them
none-below : (k from : ℕ) (rs : List Run) → k < from → AreApart from rs → list_any (holds k) rs ≡ false
none-below k from [] below apart = refl
none-below k from (r ∷ rs) below apart =
    let start : from ≤ r.at = apart.0 in
    let first : holds k r ≡ false = grind (arith, nat_tests) in
    rw (first, none-below k (suc (r.at + length r.old)) rs (omega (arith, below, start)) apart.2) refl

apart-joined : (at x : ℕ) (rs : List Run) → AreApart (suc at) rs → AreApart at (joined at x rs)
unfolding joined
apart-joined at x [] apart = (omega arith, omega arith, tt)
apart-joined at x (r ∷ rs) apart =
    let start : suc at ≤ r.at = apart.0 in
    elim (cases_Bool (r.at == suc at)) [
      | inl next ↦
          let place : r.at ≡ suc at = grind (arith, nat_tests) in
          let end : suc (r.at + length r.old) ≡ suc (at + suc (length r.old)) = omega (arith, place) in
          rw next (omega arith, omega arith, subst (λ n. AreApart n rs) end apart.2)
      | inr other ↦
          let ne : r.at ≡ suc at → ⊥ = eqb-false r.at (suc at) other in
          let later : suc (at + suc 0) ≤ r.at = omega (arith, start, ne) in
          rw other (omega arith, omega arith, (later, apart.1, apart.2))
    ]

apart-runs : (at : ℕ) (xs ys : List ℕ) → AreApart at (runs_from at xs ys)
unfolding runs_from
apart-runs at [] ys = tt
apart-runs at (x ∷ xs) [] = tt
apart-runs at (x ∷ xs) (y ∷ ys) =
    elim (cases_Bool (x == y)) [
      | inl same ↦ rw same (apart-less at (runs_from (suc at) xs ys) (apart-runs (suc at) xs ys))
      | inr other ↦ rw other (apart-joined at x (runs_from (suc at) xs ys) (apart-runs (suc at) xs ys))
    ]
  where
    apart-less : (at : ℕ) (rs : List Run) → AreApart (suc at) rs → AreApart at rs
    apart-less at [] apart = tt
    apart-less at (r ∷ rs) apart = let start : suc at ≤ r.at = apart.0 in (omega (arith, start), apart.1, apart.2)

holds-joined : (at x k : ℕ) (rs : List Run) → AreApart (suc at) rs → list_any (holds k) (joined at x rs) ≡ (k == at || list_any (holds k) rs)
unfolding joined
holds-joined at x k [] apart = let one : holds k (record { at = at; old = x ∷ [] }) ≡ (k == at) = grind (arith, nat_tests) in rw one refl
holds-joined at x k (r ∷ rs) apart =
    let some : 0 < length r.old = apart.1 in
    elim (cases_Bool (r.at == suc at)) [
      | inl next ↦
          let place : r.at ≡ suc at = grind (arith, nat_tests) in
          let both : holds k (record { at = at; old = x ∷ r.old }) ≡ (k == at || holds k r) = grind (arith, nat_tests) in
          rw (next, both) (or-three (k == at) (holds k r) (list_any (holds k) rs))
      | inr other ↦
          let one : holds k (record { at = at; old = x ∷ [] }) ≡ (k == at) = grind (arith, nat_tests) in
          rw (other, one) refl
    ]
  where
    or-three : (a b c : Bool) → ((a || b) || c) ≡ (a || (b || c))
    or-three true b c = refl
    or-three false b c = refl

changed-runs : (at k : ℕ) (xs ys : List ℕ) → length xs ≡ length ys → k < length xs → list_any (holds (at + k)) (runs_from at xs ys) ≡ not (get_or xs k 0 == get_or ys k 0)
unfolding runs_from
changed-runs at k [] ys same below = absurd (omega arith)
changed-runs at k (x ∷ xs) [] same below = absurd (omega arith)
changed-runs at zero (x ∷ xs) (y ∷ ys) same below =
    let here : at + 0 ≡ at = omega arith in
    let none = none-below at (suc at) (runs_from (suc at) xs ys) (omega arith) (apart-runs (suc at) xs ys) in
    rw here (elim (cases_Bool (x == y)) [
      | inl equal ↦ rw (equal, none) refl
      | inr other ↦ rw other (holds-joined at x at (runs_from (suc at) xs ys) (apart-runs (suc at) xs ys) ∙ ap (λ b. b || list_any (holds at) (runs_from (suc at) xs ys)) (eq-eqb at at refl))
    ])
changed-runs at (suc k) (x ∷ xs) (y ∷ ys) same below =
    let on : at + suc k ≡ suc at + k = omega arith in
    let rest = changed-runs (suc at) k xs ys (omega arith) (omega arith) in
    let later : (suc at + k == at) ≡ false = grind (arith, nat_tests) in
    rw on (elim (cases_Bool (x == y)) [
      | inl equal ↦ rw equal rest
      | inr other ↦ rw other (holds-joined at x (suc at + k) (runs_from (suc at) xs ys) (apart-runs (suc at) xs ys) ∙ ap (λ b. b || list_any (holds (suc at + k)) (runs_from (suc at) xs ys)) later ∙ rest)
    ])

pub runs_are_maximal : RunsAreMaximal
runs_are_maximal = λ old new same. record {
  apart = apart-runs 0 old new;
  changed = λ k below. ap (λ n. list_any (holds n) (runs_from 0 old new)) (let e : k ≡ 0 + k = omega arith in e) ∙ changed-runs 0 k old new same below;
}
