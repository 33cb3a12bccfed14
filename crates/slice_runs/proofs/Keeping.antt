-- What stands in a buffer once something was kept in it.
use Rattle.std.proofs.Common.{◌≡◌, ℕ, List, [], length, codes, Some, refl, subst, arith}
use Rattle.mix_io.specs.Counts.{CountRose, Rose}
use Rattle.mix_io.specs.Kept.{KeepsMore}
use Rattle.slice_parts.specs.Buffers.{Buffer, Holds, IsFull, ShowsKept, kept_of}
use Rattle.slice_parts.specs.Rooms.{RoomKept, empty_keep, faults_for}

-- what a keeper tells
abbrev told : RoomKept → List ℕ → List ℕ
told s = kept_of s.pieces.room s.pieces.bytes

-- these bytes were kept by a keeper in which nothing was
more_from : (room : ℕ) (k s : RoomKept) (bytes : List ℕ) → k ≡ empty_keep room
    → KeepsMore (Some (told k)) (Some (told s)) (codes "kept") bytes → KeepsMore (Some (kept_of room [])) (Some (told s)) (codes "kept") bytes
more_from room k s bytes same more =
    let P : RoomKept → Type 0 = λ x. KeepsMore (Some (told x)) (Some (told s)) (codes "kept") bytes in
    subst P same more

-- they stand in the buffer that it was made for
pub Holds-kept : (b : Buffer) (k s : RoomKept) (bytes : List ℕ) → k ≡ empty_keep (length b.old)
    → KeepsMore (Some (told k)) (Some (told s)) (codes "kept") bytes → ShowsKept (Some (told s)) (faults_for s) b → Holds bytes b
Holds-kept b k s bytes same more shows =
    let all : KeepsMore (Some (kept_of (length b.old) [])) (Some (told s)) (codes "kept") bytes = more_from (length b.old) k s bytes same more in
    let P : List ℕ → Type 0 = λ held. Holds held b in
    subst P (all (codes "kept")) (shows.all (told s) refl (all (codes "room")))

-- the keeper failed at them, so the buffer is full
pub IsFull-kept : (b : Buffer) (k s : RoomKept) (bytes : List ℕ) → k ≡ empty_keep (length b.old)
    → KeepsMore (Some (told k)) (Some (told s)) (codes "kept") bytes → ShowsKept (Some (told s)) (faults_for s) b
    → CountRose (faults_for k) (faults_for s) (codes "kept") → IsFull b
IsFull-kept b k s bytes same more shows rose =
    let all : KeepsMore (Some (kept_of (length b.old) [])) (Some (told s)) (codes "kept") bytes = more_from (length b.old) k s bytes same more in
    let P : RoomKept → Type 0 = λ x. Rose (faults_for x (codes "kept")) (faults_for s (codes "kept")) in
    let some : Rose 0 s.pieces.faults = subst P same rose.rose in
    shows.full (told s) refl (all (codes "room")) (omega (arith, some))
