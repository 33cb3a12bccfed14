-- Unpacked pattern data is the concatenation of its pieces.
use Rattle.std.proofs.Common.{◌≡◌, ℕ, zero, suc, ◌+◌, ◌-◌, ◌<◌, ◌≤◌, ◌==◌, nat_le, if◌then◌else◌, Bool, true, false, List, [], ◌∷◌, ◌++◌, length, Option, None, Some, refl, arith, ap, sym, subst, ◌∙◌, length-append}
use Rattle.std.proofs.lemmas.Bool.Decides.{nat_tests}
use Rattle.pef_reloc.specs.Reads.{Read}
use Rattle.pef_reloc.specs.Pattern.{with_rest, Unpacked, unpacked_by, placed, refused}
use Rattle.pef_reloc.specs.PatternClauses.{piece_in}
use Rattle.pef_reloc.specs.inner.Pattern.{with_piece, ended}
use Rattle.pef_reloc.specs.laws.Laws.{Writes, UnpacksPieces}
use Rattle.pef_reloc.specs.laws.Laws.Writes.{Ends, Then}
use Rattle.pef_reloc.proofs.Unpacked.{next_piece, leaves_piece, Leaves}

abbrev whole : List ℕ → Unpacked
whole written = record { written = written; refusal = None }

no_piece : (bytes : List ℕ) (read : Read (List ℕ)) → piece_in bytes ≡ Some read → 0 < length bytes
no_piece [] read is = absurd (cc)
no_piece (byte ∷ bytes) read is = omega arith

-- what it writes is unpacked
from_pieces : (len : ℕ) (bytes written : List ℕ) (room : ℕ) → Writes bytes written → length written ≡ room → unpacked_by (length bytes) len bytes room ≡ whole written
from_pieces len _ _ room (Ends bytes written none empty) fits =
    let zero_room : room ≡ 0 = sym fits ∙ ap length empty in
    ap (λ b. unpacked_by (length b) len b room) none ∙ ap (λ r. unpacked_by 0 len [] r) zero_room ∙ ap whole (sym empty)
from_pieces len _ _ room (Then bytes piece rest later written is w same) fits =
    let long : length written ≡ length piece + length later = ap length same ∙ length-append piece later in
    let left : length later ≡ room - length piece = omega arith in
    next_piece len bytes room (with_rest piece rest) (no_piece bytes (with_rest piece rest) is) is (omega arith)
    ∙ ap (with_piece piece) (from_pieces len rest later (room - length piece) w left) ∙ ap whole (sym same)

-- the end of pattern data that is unpacked
ended_by : (test : Bool) (len : ℕ) (written : List ℕ) → (if test then whole [] else refused len) ≡ whole written → (test ≡ true) × (written ≡ [])
ended_by true len written is = (refl, sym (ap (λ u. u.written) is))
ended_by false len written is = let e = ap (λ u. u.refusal) is in absurd (cc)

ended_whole : (len room : ℕ) (written : List ℕ) → ended len room ≡ whole written → (room ≡ 0) × (written ≡ [])
ended_whole len room written is =
    let p = ended_by (room == 0) len written is in
    let test : (room == 0) ≡ true = p.0 in
    (grind (arith, nat_tests, test), p.1)

-- a piece of pattern data that is unpacked
record Placed (room : ℕ) (r : Option (Read (List ℕ))) (f : List ℕ → ℕ → Unpacked) (written : List ℕ) : Type 0 where
  read : Read (List ℕ)
  is : r ≡ Some read
  fits : length read.value ≤ room
  later : f read.rest (room - length read.value) ≡ whole (f read.rest (room - length read.value)).written
  same : written ≡ read.value ++ (f read.rest (room - length read.value)).written

placed_by : (test : Bool) (place : ℕ) (piece : List ℕ) (u : Unpacked) (written : List ℕ) → (if test then with_piece piece u else refused place) ≡ whole written
    → (test ≡ true) × (u ≡ whole u.written) × (written ≡ piece ++ u.written)
placed_by true place piece u written is =
    (refl, ap (λ o. let v : Unpacked = record { written = u.written; refusal = o } in v) (ap (λ v. v.refusal) is), sym (ap (λ v. v.written) is))
placed_by false place piece u written is = let e = ap (λ v. v.refusal) is in absurd (cc)

placed_whole : (place room : ℕ) (r : Option (Read (List ℕ))) (f : List ℕ → ℕ → Unpacked) (written : List ℕ) → placed place room r f ≡ whole written → Placed room r f written
placed_whole place room None f written is = let e = ap (λ v. v.refusal) is in absurd (cc)
placed_whole place room (Some read) f written is =
    let p = placed_by (nat_le (length read.value) room) place read.value (f read.rest (room - length read.value)) written is in
    let test : nat_le (length read.value) room ≡ true = p.0 in
    record { read = read; is = refl; fits = grind (arith, nat_tests, test); later = p.1; same = p.2 }

to_pieces : (n len : ℕ) (bytes written : List ℕ) (room : ℕ) → length bytes ≤ n → unpacked_by n len bytes room ≡ whole written → Writes bytes written × (length written ≡ room)
to_pieces zero len [] written room enough is =
    let p = ended_whole len room written is in (Ends [] written refl p.1, ap length p.1 ∙ sym p.0)
to_pieces (suc n) len [] written room enough is =
    let p = ended_whole len room written is in (Ends [] written refl p.1, ap length p.1 ∙ sym p.0)
to_pieces zero len (byte ∷ bytes) written room enough is = absurd (omega arith)
to_pieces (suc n) len (byte ∷ bytes) written room enough is =
    let p = placed_whole (len - length (byte ∷ bytes)) room (piece_in (byte ∷ bytes)) (unpacked_by n len) written is in
    let short : length p.read.rest ≤ length bytes = subst (Leaves (length bytes)) p.is (leaves_piece byte bytes) in
    let later = (unpacked_by n len p.read.rest (room - length p.read.value)).written in
    let q = to_pieces n len p.read.rest later (room - length p.read.value) (omega arith) p.later in
    let long : length written ≡ length p.read.value + length later = ap length p.same ∙ length-append p.read.value later in
    let count : length later ≡ room - length p.read.value = q.1 in
    let fits = p.fits in
    (Then (byte ∷ bytes) p.read.value p.read.rest later written p.is q.0 p.same, omega arith)

pub unpacks_pieces : UnpacksPieces
unpacks_pieces bytes room written = (
  (λ is. to_pieces (length bytes) (length bytes) bytes written room (omega arith) is),
  (λ w. from_pieces (length bytes) bytes written room w.0 w.1),
)
