-- the tests `fits` and `can_place` as facts
use Rattle.std.proofs.Common.{ℕ, ◌≡◌, true, inl, inr, ⊎_elim, IsTrue}
use Rattle.std.proofs.lemmas.Bool.{and_parts, and_from, or_cases, or_left, or_right, leb-true, le-leb, ltb-true, lt-ltb, eqb-true, eq-eqb}
use Rattle.std.proofs.lemmas.List.Sums.{AllPass-from_list_all, list_all-from_AllPass}
use Rattle.host_heap.specs.declared.block.Block.{Block}
use Rattle.host_heap.specs.Space.{Space}
use Rattle.host_heap.specs.SpaceClauses.{IsApart, HasRoom}
use Rattle.host_heap.specs.laws.Place.{CanPlace}
use Rattle.host_heap.specs.Place.{fits, can_place, is_apart}
use Rattle.host_heap.specs.laws.Laws.{PlacesAreTested}

pub IsApart-from_test : (size address : ℕ) (block : Block) → is_apart size address block ≡ true → IsApart size address block
IsApart-from_test size address block h =
    ⊎_elim (λ e. inl (leb-true _ _ e)) (λ e. inr (leb-true _ _ e)) (or_cases _ _ h)

pub is_apart_from : (size address : ℕ) (block : Block) → IsApart size address block → is_apart size address block ≡ true
is_apart_from size address block h =
    ⊎_elim (λ e. or_left _ _ (le-leb _ _ e)) (λ e. or_right _ _ (le-leb _ _ e)) h

pub HasRoom-from_fits : (s : Space) (size address : ℕ) → IsTrue (fits s size address) → HasRoom s size address
unfolding fits
HasRoom-from_fits s size address h =
    let p = and_parts _ _ h in
    let q = and_parts _ _ p.0 in
    record {
      above = leb-true _ _ q.0;
      below = leb-true _ _ q.1;
      apart = λ k d l. IsApart-from_test size address _ (AllPass-from_list_all (is_apart size address) s.blocks p.1 k d l);
    }

pub fits_from : (s : Space) (size address : ℕ) → HasRoom s size address → IsTrue (fits s size address)
unfolding fits
fits_from s size address r =
    and_from _ _
    (and_from _ _ (le-leb _ _ r.above) (le-leb _ _ r.below))
    (list_all-from_AllPass (is_apart size address) s.blocks (λ k d l. is_apart_from size address _ (r.apart k d l)))

pub CanPlace-from_test : (s : Space) (size address : ℕ) → IsTrue (can_place s size address) → CanPlace s size address
CanPlace-from_test s size address h =
    let few = and_parts _ _ h in
    let whole = and_parts _ _ few.1 in
    let least = and_parts _ _ whole.1 in
    let even = and_parts _ _ least.1 in
    record {
      few = ltb-true _ _ few.0;
      whole = eqb-true _ _ whole.0;
      least = leb-true _ _ least.0;
      even = eqb-true _ _ even.0;
      room = HasRoom-from_fits s size address even.1;
    }

pub can_place_from : (s : Space) (size address : ℕ) → CanPlace s size address → IsTrue (can_place s size address)
can_place_from s size address h =
    and_from _ _ (lt-ltb _ _ h.few)
    (and_from _ _ (eq-eqb _ _ h.whole) (and_from _ _ (le-leb _ _ h.least) (and_from _ _ (eq-eqb _ _ h.even) (fits_from s size address h.room))))

pub places_are_tested : PlacesAreTested
places_are_tested s size address = (CanPlace-from_test s size address, can_place_from s size address)
