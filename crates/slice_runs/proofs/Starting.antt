-- What the objects of a call tell before it.
use Rattle.std.proofs.Common.{◌≡◌, ℕ, Bool, true, false, List, [], codes, bytes_eq, Some, if◌then◌else◌, refl, ap, subst, sym}
use Rattle.mix_io.specs.StreamsClauses.{output}
use Rattle.slice_parts.specs.Buffers.{kept_of, told_of}
use Rattle.slice_parts.specs.Rooms.{RoomHeld, RoomKept, empty_keep, empty_room, faults_for}

-- an empty sink
pub output-empty : (room : ℕ) (s : RoomHeld) → s ≡ empty_room room → output (told_of s.room s.bytes) s.faults ≡ output (told_of room []) 0
output-empty room s same = ap (λ (x : RoomHeld). output (told_of x.room x.bytes) x.faults) same

-- and an empty keeper
pub kept-empty : (room : ℕ) (s : RoomKept) → s ≡ empty_keep room → Some (kept_of s.pieces.room s.pieces.bytes) ≡ Some (kept_of room [])
kept-empty room s same = ap (λ (x : RoomKept). Some (kept_of x.pieces.room x.pieces.bytes)) same

either_way : {A : Type 0} (b : Bool) (x : A) → (if b then x else x) ≡ x
either_way true x = refl
either_way false x = refl

pub faults-empty : (room : ℕ) (s : RoomKept) → s ≡ empty_keep room → (name : List ℕ) → faults_for s name ≡ 0
faults-empty room s same name =
    let P : RoomKept → Type 0 = λ x. faults_for x name ≡ 0 in
    subst P (sym same) (either_way (bytes_eq name (codes "kept")) 0)
