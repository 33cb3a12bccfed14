-- Pattern data piece by piece.
use Rattle.std.proofs.Common.{◌≡◌, ℕ, zero, suc, ◌+◌, ◌-◌, ◌*◌, ◌/◌, ◌%◌, ◌^◌, ◌<◌, ◌≤◌, ◌==◌, nat_lt, nat_le, if◌then◌else◌, Bool, true, false, List, [], ◌∷◌, length, replicate, take, drop, Option, None, Some, refl, arith, ap, subst, ◌∙◌}
use Rattle.std.proofs.lemmas.List.{places}
use Rattle.std.proofs.lemmas.Bool.Decides.{nat_tests}
use Rattle.pef_reloc.specs.Reads.{Read}
use Rattle.pef_reloc.specs.Pattern.{with_rest, number_after, count_in, bytes_in, repeated_in, parts_in, mixed_in, mixed_zeros_in, opcode_in, Unpacked, placed, refused, unpacked_by}
use Rattle.pef_reloc.specs.PatternClauses.{piece_in}
use Rattle.pef_reloc.specs.inner.Pattern.{number_in, with_piece}
use Rattle.pef_reloc.specs.PatternOperator.{◌>>=◌}

-- no more than n bytes are left behind what was read
abbrev pub Leaves : {A : Type 0} → ℕ → Option (Read A) → Type 0
Leaves n None = Unit {0}
Leaves n (Some read) = length read.rest ≤ n

leaves_then : {A B : Type 0} (n : ℕ) (r : Option (Read A)) (next : A → List ℕ → Option (Read B)) → Leaves n r → ((value : A) (rest : List ℕ) → length rest ≤ n → Leaves n (next value rest)) → Leaves n (r >>= next)
leaves_then n None next short later = tt
leaves_then n (Some read) next short later = later read.value read.rest short

leaves_if : {A : Type 0} (n : ℕ) (test : Bool) (x y : Option (Read A)) → Leaves n x → Leaves n y → Leaves n (if test then x else y)
leaves_if n true x y p q = p
leaves_if n false x y p q = q

leaves_number : (n value : ℕ) (bytes : List ℕ) → length bytes ≤ n → Leaves n (number_after value bytes)
leaves_number n value [] short = tt
leaves_number n value (group ∷ rest) short =
    let less : length rest ≤ n = omega arith in
    leaves_if n (nat_lt group 128) _ _ (leaves_if n (nat_lt (value * 128 + group % 128) (2 ^ 32)) (Some (with_rest (value * 128 + group % 128) rest)) None less tt)
    (leaves_number n (value * 128 + group % 128) rest less)

leaves_bytes : (n count : ℕ) (bytes : List ℕ) → length bytes ≤ n → Leaves n (bytes_in count bytes)
leaves_bytes n count bytes short =
    let less : length (drop count bytes) ≤ n = grind (arith, places) in
    leaves_if n (nat_le count (length bytes)) (Some (with_rest (take count bytes) (drop count bytes))) None less tt

leaves_repeated : (n count : ℕ) (bytes : List ℕ) → length bytes ≤ n → Leaves n (repeated_in count bytes)
leaves_repeated n count bytes short =
    leaves_then n (number_in bytes) _ (leaves_number n 0 bytes short) (λ further behind less.
    leaves_then n (bytes_in count behind) _ (leaves_bytes n count behind less) (λ block rest small. small))

leaves_parts : (n : ℕ) (common : List ℕ) (size count : ℕ) (bytes : List ℕ) → length bytes ≤ n → Leaves n (parts_in common size count bytes)
leaves_parts n common size count bytes short =
    leaves_then n (bytes_in (count * size) bytes) _ (leaves_bytes n (count * size) bytes short) (λ parts rest small. small)

leaves_mixed : (n count : ℕ) (bytes : List ℕ) → length bytes ≤ n → Leaves n (mixed_in count bytes)
leaves_mixed n count bytes short =
    leaves_then n (number_in bytes) _ (leaves_number n 0 bytes short) (λ size behind less.
    leaves_then n (number_in behind) _ (leaves_number n 0 behind less) (λ parts blocks small.
    leaves_then n (bytes_in count blocks) _ (leaves_bytes n count blocks small) (λ common rest fine. leaves_parts n common size parts rest fine)))

leaves_mixed_zeros : (n count : ℕ) (bytes : List ℕ) → length bytes ≤ n → Leaves n (mixed_zeros_in count bytes)
leaves_mixed_zeros n count bytes short =
    leaves_then n (number_in bytes) _ (leaves_number n 0 bytes short) (λ size behind less.
    leaves_then n (number_in behind) _ (leaves_number n 0 behind less) (λ parts rest small. leaves_parts n (replicate count 0) size parts rest small))

leaves_opcode : (n opcode count : ℕ) (bytes : List ℕ) → length bytes ≤ n → Leaves n (opcode_in opcode count bytes)
leaves_opcode n opcode count bytes short =
    leaves_if n (opcode == 0) (Some (with_rest (replicate count 0) bytes)) _ short
    (leaves_if n (opcode == 1) _ _ (leaves_bytes n count bytes short)
    (leaves_if n (opcode == 2) _ _ (leaves_repeated n count bytes short)
    (leaves_if n (opcode == 3) _ _ (leaves_mixed n count bytes short)
    (leaves_if n (opcode == 4) _ None (leaves_mixed_zeros n count bytes short) tt))))

-- an instruction takes a byte at least
pub leaves_piece : (byte : ℕ) (bytes : List ℕ) → Leaves (length bytes) (piece_in (byte ∷ bytes))
leaves_piece byte bytes =
    let self : length bytes ≤ length bytes = omega arith in
    leaves_then (length bytes) (count_in byte bytes) _
    (leaves_if (length bytes) (byte % 32 == 0) (number_in bytes) (Some (with_rest (byte % 32) bytes)) (leaves_number (length bytes) 0 bytes self) self)
    (λ count rest less. leaves_opcode (length bytes) (byte / 32) count rest less)

placed_same : (place room n : ℕ) (r : Option (Read (List ℕ))) (f g : List ℕ → ℕ → Unpacked) → Leaves n r → ((bytes : List ℕ) (left : ℕ) → length bytes ≤ n → f bytes left ≡ g bytes left) → placed place room r f ≡ placed place room r g
placed_same place room n None f g short same = refl
placed_same place room n (Some read) f g short same =
    ap (λ u. if nat_le (length read.value) room then with_piece read.value u else refused place) (same read.rest (room - length read.value) short)

-- as many instructions as bytes are enough
pub enough : (n m len : ℕ) (bytes : List ℕ) (room : ℕ) → length bytes ≤ n → length bytes ≤ m → unpacked_by n len bytes room ≡ unpacked_by m len bytes room
enough zero zero len [] room p q = refl
enough zero (suc m) len [] room p q = refl
enough (suc n) zero len [] room p q = refl
enough (suc n) (suc m) len [] room p q = refl
enough zero m len (byte ∷ bytes) room p q = absurd (omega arith)
enough (suc n) zero len (byte ∷ bytes) room p q = absurd (omega arith)
enough (suc n) (suc m) len (byte ∷ bytes) room p q =
    placed_same (len - length (byte ∷ bytes)) room (length bytes) (piece_in (byte ∷ bytes)) (unpacked_by n len) (unpacked_by m len) (leaves_piece byte bytes)
    (λ rest left less. enough n m len rest left (omega arith) (omega arith))

-- a piece that there is room for, and what follows
pub next_piece : (len : ℕ) (bytes : List ℕ) (room : ℕ) (read : Read (List ℕ)) → 0 < length bytes → piece_in bytes ≡ Some read → length read.value ≤ room
    → unpacked_by (length bytes) len bytes room ≡ with_piece read.value (unpacked_by (length read.rest) len read.rest (room - length read.value))
next_piece len [] room read some is fits = absurd (omega arith)
next_piece len (byte ∷ bytes) room read some is fits =
    let short : length read.rest ≤ length bytes = subst (Leaves (length bytes)) is (leaves_piece byte bytes) in
    let test : nat_le (length read.value) room ≡ true = grind (arith, nat_tests) in
    let place = len - length (byte ∷ bytes) in
    ap (λ r. placed place room r (unpacked_by (length bytes) len)) is
    ∙ ap (λ t. if t then with_piece read.value (unpacked_by (length bytes) len read.rest (room - length read.value)) else refused place) test
    ∙ ap (λ u. with_piece read.value u) (enough (length bytes) (length read.rest) len read.rest (room - length read.value) short (omega arith))
