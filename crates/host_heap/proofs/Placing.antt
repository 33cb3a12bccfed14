-- The laws of placing.
use Rattle.std.proofs.Common.{◌≡◌, ℕ, ◌+◌, ◌≤◌, true, Option, Some, List, [], ◌∷◌, ◌++◌, nat_le, nat_lt, refl, sym, ap, arith}
use Rattle.std.specs.Prelude.{◌↔◌, All}
use Rattle.std.proofs.lemmas.Bool.{leb-true, lt-ltb, le-ltb}
use Rattle.std.proofs.lemmas.List.Sums.{AllPass-from_list_all}
use Rattle.host_heap.specs.declared.block.Block.{Block}
use Rattle.host_heap.specs.Space.{Space, rounded}
use Rattle.host_heap.specs.PlaceClauses.{IsPlace}
use Rattle.host_heap.specs.Place.{is_behind, place_for, with_block}
use Rattle.host_heap.specs.Sound.{IsAligned}
use Rattle.host_heap.specs.laws.Laws.{FreeingUndoesPlacing, PlacingAppends, PlacingKeepsSound, PlacingUndoesFreeing, TakingPlaces}
use Rattle.host_heap.proofs.Fits.{CanPlace-from_test, can_place_from}
use Rattle.host_heap.proofs.Lowest.{IsPlace-from, place_from}
use Rattle.host_heap.proofs.Keeps.{CanPlace-got, IsSound-placed, taken-some}
use Rattle.host_heap.proofs.Order.{filter_all, filter_none}
use Rattle.host_heap.proofs.Undo.{CanPlace-freed, freed-placed, placed-freed}

pub place_is_unique : (s : Space) (size : ℕ) (answer : Option ℕ) → (answer ≡ place_for s size) ↔ IsPlace s size answer
place_is_unique s size answer = (IsPlace-from s size answer, place_from s size answer)

pub placing_keeps_sound : PlacingKeepsSound
placing_keeps_sound s size address h can = IsSound-placed s size address h (CanPlace-from_test s size address can)

pub taking_places : TakingPlaces
taking_places s size address h is =
    let place = IsPlace-from s size (Some address) (sym is) in
    (can_place_from s (rounded size) address (CanPlace-got s size address h place.0 place.1), sym (taken-some s size (rounded size) address refl (sym is)))

pub freeing_undoes_placing : FreeingUndoesPlacing
freeing_undoes_placing s size address h can = freed-placed s size address h (CanPlace-from_test s size address can)

pub placing_undoes_freeing : PlacingUndoesFreeing
placing_undoes_freeing s block h in' = (can_place_from _ block.size block.address (CanPlace-freed s block h in'), placed-freed s block h in')

-- a block behind all others
pub behind-all : (blocks : List Block) (address : ℕ) → is_behind blocks address ≡ true → All (λ b. b.address + b.size ≤ address) blocks
behind-all blocks address is = λ k d l. leb-true _ _ (AllPass-from_list_all (λ b. nat_le (b.address + b.size) address) blocks is k d l)

appended : (blocks : List Block) (new : Block) → All IsAligned blocks → All (λ b. b.address + b.size ≤ new.address) blocks → with_block blocks new ≡ blocks ++ new ∷ []
appended blocks new aligned behind =
    let low = filter_all (λ (b : Block). nat_lt b.address new.address) blocks (λ k d l. let whole = aligned k d l in let before = behind k d l in lt-ltb _ _ (omega (arith, whole.2))) in
    let high = filter_none (λ (b : Block). nat_lt new.address b.address) blocks (λ k d l. let before = behind k d l in le-ltb _ _ (omega arith)) in
    rw (low, high) refl

pub placing_appends : PlacingAppends
placing_appends s size address aligned behind =
    ap (λ bs. record s { blocks = bs }) (appended s.blocks (record { address = address; size = size }) aligned (behind-all s.blocks address behind))
