-- What is seen of the boxes in the slots, read, set and filled.
use Rattle.std.proofs.Common.{◌≡◌, ℕ, zero, suc, List, [], ◌∷◌, map, Option, None, Some, IsSome, Result, option_map, slice_index_or, slice_set, refl, ap, ◌∙◌}
use Rattle.std.proofs.lemmas.List.{map-set}
use Rattle.std.proofs.Math.ListN.{get_or-map}
use Rattle.dev_rack.specs.SlotsClauses.{Heard, HeardAt}
use Rattle.dev_rack.specs.Slots.{device_at}
use Rattle.dev_rack.specs.Boxed.{seen, seen_slots}

-- a slot that holds a device holds the same whatever stands for what is not there
same_held : {A B : Type 0} (f : A → B) (xs : List (Option A)) (i : ℕ) (d : Option A) (b : A) →
    IsSome (slice_index_or (map (option_map f) xs) i None) → slice_index_or xs i d ≡ Some b → slice_index_or xs i None ≡ Some b
same_held f [] i d b h e = cc
same_held f (x ∷ xs) zero d b h e = e
same_held f (x ∷ xs) (suc i) d b h e = same_held f xs i d b h e

module _ {B E : Type 0} (faults : B → ℕ) (told : B → Option (List (ℕ × Option ℕ))) where
  -- one box was asked, and put back
  pub heard_at : (xs : List (Option B)) (i word : ℕ) (d : Option B) (b c : B) (result : Result ℕ E) →
      IsSome (device_at (seen_slots faults told xs) i) → slice_index_or xs i d ≡ Some b → Heard (seen faults told b) (seen faults told c) word result →
      HeardAt (seen_slots faults told xs) (seen_slots faults told (slice_set xs i (Some c))) i word result
  heard_at xs i word d b c result h e heard = record {
    before = seen faults told b;
    after = seen faults told c;
    held = get_or-map (option_map (seen faults told)) xs i None ∙ ap (option_map (seen faults told)) (same_held (seen faults told) xs i d b h e);
    written = map-set (option_map (seen faults told)) xs i (Some c);
    heard = heard;
  }

module _ {B : Type 0} (faults : B → ℕ) (told : B → Option (List (ℕ × Option ℕ))) where
  pub emptied : (xs : List (Option B)) (i : ℕ) → seen_slots faults told (slice_set xs i None) ≡ slice_set (seen_slots faults told xs) i None
  emptied xs i = map-set (option_map (seen faults told)) xs i None

  -- boxes that were put into slots of their own
  pub seen_filled : (xs : List B) → seen_slots faults told (map Some xs) ≡ map Some (map (seen faults told) xs)
  seen_filled [] = refl
  seen_filled (x ∷ xs) = ap (λ l. Some (seen faults told x) ∷ l) (seen_filled xs)
