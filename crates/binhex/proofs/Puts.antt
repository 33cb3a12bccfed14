-- Bytes that are summed, and put, a piece at a time.
use Rattle.std.proofs.Common.{◌≡◌, ◌∙◌, ap, sym, subst, ℕ, ◌+◌, ◌≤◌, List, [], ◌∷◌, length, take, drop, Option, arith}
use Rattle.std.specs.Prelude.{slice_range}
use Rattle.std.proofs.KnownBytes.{Appends-trans}
use Rattle.std.proofs.Math.Seq.{take-add}
use Rattle.std.proofs.lemmas.Grind.{common_steps}
use Rattle.std.proofs.lemmas.List.Sums.{fold-append}
use Rattle.std.specs.Io.KnownBytes.{Appends}
use Rattle.crc16.specs.Checksum.{remainder, with_byte}
use Rattle.binhex.proofs.Rests.{taken_one}

pub summed_one : (bytes rest : List ℕ) (n byte sum : ℕ) → drop n bytes ≡ byte ∷ rest → sum ≡ remainder (take n bytes)
    → with_byte sum byte ≡ remainder (take (n + 1) bytes)
summed_one bytes rest n byte sum is before =
    ap (λ (s : ℕ). with_byte s byte) before
    ∙ sym (ap (λ (xs : List ℕ). remainder xs) (taken_one bytes rest n byte is) ∙ fold-append with_byte 0 (take n bytes) (byte ∷ []))

-- a piece behind those that are put
pub put_more : (a b c : Option (List ℕ)) (from rest : List ℕ) (done n : ℕ) → rest ≡ drop done from → Appends a b (take done from) → Appends b c (take n rest)
    → Appends a c (take (done + n) from)
put_more a b c from rest done n is before piece =
    let here : Appends b c (take n (drop done from)) = subst (λ (xs : List ℕ). Appends b c (take n xs)) is piece in
    subst (λ (xs : List ℕ). Appends a c xs) (sym (take-add done n from)) (Appends-trans a b c (take done from) (take n (drop done from)) before here)

-- a piece of which a front is put
pub put_front : (a b c : Option (List ℕ)) (bytes from rest : List ℕ) (start count done n : ℕ) → from ≡ drop start bytes → rest ≡ drop done from
    → start + count ≤ length bytes → done + n ≤ count → Appends a b (take done from) → (k : ℕ) × (k ≤ length (take n rest)) × Appends b c (take k (take n rest))
    → (k : ℕ) × (k ≤ length (slice_range bytes start (start + count))) × Appends a c (take k (slice_range bytes start (start + count)))
put_front a b c bytes from rest start count done n begins is fits within before (k, few, piece) =
    let fewer : k ≤ n = grind (arith, common_steps) in
    let short : take k (take n rest) ≡ take k rest = grind (arith, common_steps) in
    let same : take (done + k) (slice_range bytes start (start + count)) ≡ take (done + k) from = grind (arith, common_steps) in (
      done + k,
      grind (arith, common_steps),
      subst (λ (xs : List ℕ). Appends a c xs) (sym same)
          (put_more a b c from rest done k is before (subst (λ (xs : List ℕ). Appends b c xs) short piece)),
    )
