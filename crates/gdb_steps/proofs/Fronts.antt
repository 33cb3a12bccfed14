-- Beginnings of lists.
use Rattle.std.proofs.Common.{◌≡◌, ℕ, zero, suc, ◌≤◌, ◌-◌, nat_le, min, Bool, true, false, if◌then◌else◌, List, [], ◌∷◌, length, take, refl, sym, ap, ◌∙◌, subst, arith}
use Rattle.std.proofs.Math.Seq.{take-nil}
use Rattle.std.proofs.lemmas.List.{length-take}
use Rattle.std.proofs.lemmas.Slice.Eq.{slice_eq-Decides}
use Rattle.std.specs.Bool.{Decides, OnFalse, OnTrue}
use Rattle.std.specs.Cmp.Lexicographic.{pointwise}
use Rattle.dev_rack.specs.declared.answers.Asked.{Asked}
use Rattle.mix_debug.specs.CostsClauses.{Kept, fitting}
use Rattle.gdb_steps.specs.Places.{ArePlaces, Begin, Given, IsFront}
use Rattle.gdb_steps.specs.Walkers.{places}
use Rattle.gdb_steps.specs.declared.used.Used.{Used}

pub front-short : (asks journal : List Asked) → IsFront asks journal → length asks ≤ length journal
front-short asks journal is =
    let long : length asks ≡ min (length asks) (length journal) = ap length is ∙ length-take (length asks) journal in
    grind (arith, long)

pub no-used : (ks : List Kept) → places ks [] ≡ []
unfolding places
no-used [] = refl
no-used (k ∷ ks) = refl

kept-or : (b : Begin) (g : Given) (n most : ℕ) (t : Bool) (k : Kept) (ks rest : List Kept) (u : Used) (us : List Used)
    → ArePlaces b g n (places (k ∷ ks) (u ∷ us)) → ((m : ℕ) → ArePlaces b g m (places ks us) → ArePlaces b g m (places rest (take most us)))
    → ArePlaces b g n (places (if t then k ∷ rest else []) (take (suc most) (u ∷ us)))
unfolding places
kept-or b g n most true k ks rest u us are more = (are.0, are.1, are.2, more are.0 are.3)
kept-or b g n most false k ks rest u us are more = tt

-- fewer of the places that are kept
pub fewer-places : (b : Begin) (g : Given) (n room most : ℕ) (ks : List Kept) (us : List Used) → ArePlaces b g n (places ks us) → ArePlaces b g n (places (fitting room ks) (take most us))
unfolding fitting places
fewer-places b g n room most [] us are = tt
fewer-places b g n room most (k ∷ ks) [] are =
    subst (ArePlaces b g n) (sym (ap (places (fitting room (k ∷ ks))) (take-nil most) ∙ no-used (fitting room (k ∷ ks)))) tt
fewer-places b g n room zero (k ∷ ks) (u ∷ us) are = subst (ArePlaces b g n) (sym (no-used (fitting room (k ∷ ks)))) tt
fewer-places b g n room (suc most) (k ∷ ks) (u ∷ us) are =
    kept-or b g n most (nat_le k.cost room) k ks (fitting (room - k.cost) ks) u us are (λ m. fewer-places b g m (room - k.cost) most ks us)

-- ---- a test of every ask

on-true : (b : Bool) (P : Type 0) → (b ≡ true → P) → OnTrue b P
on-true true P is = is refl
on-true false P is = tt

on-false : (b : Bool) (P : Type 0) → (P → b ≡ true) → OnFalse b (P → ⊥)
on-false true P is = tt
on-false false P is = λ p. false-true (is p)
  where
    false-true : false ≡ true → ⊥
    false-true e = cc

pub front-yes : {E : Asked → Asked → Bool} (asks journal : List Asked) (r : Bool) → r ≡ pointwise E asks (take (length asks) journal) → ((a b : Asked) → Decides (E a b) (a ≡ b)) → OnTrue r (IsFront asks journal)
front-yes asks journal r is same = on-true r (IsFront asks journal) (slice_eq-Decides same asks (take (length asks) journal) r is).0

pub front-no : {E : Asked → Asked → Bool} (asks journal : List Asked) (r : Bool) → r ≡ pointwise E asks (take (length asks) journal) → ((a b : Asked) → Decides (E a b) (a ≡ b)) → OnFalse r (IsFront asks journal → ⊥)
front-no asks journal r is same = on-false r (IsFront asks journal) (slice_eq-Decides same asks (take (length asks) journal) r is).1
