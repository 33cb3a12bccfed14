-- Packed bytes are taken one by one.
use Rattle.std.proofs.Common.{◌≡◌, ◌∙◌, ap, sym, refl, ℕ, zero, suc, ◌+◌, ◌-◌, ◌≤◌, ◌==◌, true, false, List, [], ◌∷◌, ◌++◌, length, Some, Result, Ok, arith, le-ltb, append_assoc, add-one}
use Rattle.std.specs.Prelude.{◌≢◌, replicate, slice_index}
use Rattle.std.specs.List.{slice_get}
use Rattle.std.proofs.lemmas.Bool.Decides.{nat_tests}
use Rattle.std.proofs.lemmas.List.{get_or_append_left, length-append, length-replicate, replicate-append-replicate}
use Rattle.std.proofs.lemmas.Option.{slice_get-get_or}
use Rattle.std.proofs.Math.Seq.{get_or-append_seam}
use Rattle.mix_bits.specs.Results.{◌>>=◌}
use Rattle.binhex.specs.declared.error.BinHexError.{BinHexError}
use Rattle.binhex.specs.Runs.{Expanding, finished, most, taken, taken_below, unmarked, with_equal}
use Rattle.binhex.specs.laws.Packed.{GivesBackPacked, Packed}
use Rattle.binhex.specs.laws.Packed.Packed.{nothing, itself, marked, repeated}

abbrev Read : Type 0
Read = Result Expanding BinHexError

abbrev plain : List ℕ → Expanding
plain bytes = record {
  bytes = bytes;
  marked = false;
}

abbrev behind_mark : List ℕ → Expanding
behind_mark bytes = record {
  bytes = bytes;
  marked = true;
}

-- what stands behind is not looked at before its turn
fronts : (packed behind : List ℕ) (n : ℕ) → n ≤ length packed → taken_below (packed ++ behind) n ≡ taken_below packed n
fronts packed behind zero fits = refl
fronts packed behind (suc n) fits =
    let before : taken_below (packed ++ behind) n ≡ taken_below packed n = fronts packed behind n (omega arith) in
    let here : slice_index (packed ++ behind) n ≡ slice_index packed n = get_or_append_left packed behind 0 n (omega arith) in
    ap (λ (r : Read). r >>= λ so. taken so (slice_index (packed ++ behind) n)) before
    ∙ ap (λ (x : ℕ). taken_below packed n >>= λ so. taken so x) here

one_more : (packed : List ℕ) (byte : ℕ) (so : Expanding) → taken_below packed (length packed) ≡ Ok so
    → taken_below (packed ++ byte ∷ []) (length (packed ++ byte ∷ [])) ≡ taken so byte
one_more packed byte so before =
    let long : length (packed ++ byte ∷ []) ≡ suc (length packed) = length-append packed (byte ∷ []) ∙ add-one (length packed) in
    ap (λ (n : ℕ). taken_below (packed ++ byte ∷ []) n) long
    ∙ (ap (λ (r : Read). r >>= λ so. taken so (slice_index (packed ++ byte ∷ []) (length packed)))
    (fronts packed (byte ∷ []) (length packed) (omega arith) ∙ before)
    ∙ ap (λ (x : ℕ). taken so x) (get_or-append_seam packed byte [] 0))

two_more : (packed : List ℕ) (first second : ℕ) (so then : Expanding) → taken_below packed (length packed) ≡ Ok so → taken so first ≡ Ok then
    → taken_below (packed ++ first ∷ second ∷ []) (length (packed ++ first ∷ second ∷ [])) ≡ taken then second
two_more packed first second so then before one =
    ap (λ (p : List ℕ). taken_below p (length p)) (sym (append_assoc packed (first ∷ []) (second ∷ [])))
    ∙ one_more (packed ++ first ∷ []) second then (one_more packed first so before ∙ one)

equal_put : (bytes : List ℕ) (byte count : ℕ) → length bytes + count ≤ most → with_equal bytes byte count ≡ Ok (bytes ++ replicate count byte)
equal_put bytes byte count fits = rw (le-ltb most (length bytes + count) fits) refl

itself_taken : (bytes : List ℕ) (byte : ℕ) → byte ≢ 0x90 → length bytes + 1 ≤ most → taken (plain bytes) byte ≡ unmarked (bytes ++ byte ∷ [])
itself_taken bytes byte other fits =
    let no_mark : (byte == 0x90) ≡ false = grind (arith, nat_tests) in
    rw (no_mark, equal_put bytes byte 1 fits) refl

last_of : (bytes : List ℕ) (byte : ℕ) → slice_get (bytes ++ byte ∷ []) (length (bytes ++ byte ∷ []) - 1) ≡ Some byte
last_of bytes byte =
    let long : length (bytes ++ byte ∷ []) ≡ length bytes + 1 = length-append bytes (byte ∷ []) in
    let at : length (bytes ++ byte ∷ []) - 1 ≡ length bytes = omega (arith, long) in
    ap (λ (n : ℕ). slice_get (bytes ++ byte ∷ []) n) at
    ∙ (slice_get-get_or (bytes ++ byte ∷ []) (length bytes) 0 (omega (arith, long)) ∙ ap (λ (x : ℕ). Some x) (get_or-append_seam bytes byte [] 0))

run_put : (bytes : List ℕ) (byte count : ℕ) → 1 ≤ count → (bytes ++ byte ∷ []) ++ replicate (count - 1) byte ≡ bytes ++ replicate count byte
run_put bytes byte count some =
    let all : 1 + (count - 1) ≡ count = omega arith in
    append_assoc bytes (byte ∷ []) (replicate (count - 1) byte)
    ∙ ap (λ (xs : List ℕ). bytes ++ xs) (replicate-append-replicate 1 (count - 1) byte ∙ ap (λ (n : ℕ). replicate n byte) all)

repeated_taken : (bytes : List ℕ) (byte count : ℕ) → 1 ≤ count → length (bytes ++ byte ∷ []) + (count - 1) ≤ most
    → taken (behind_mark (bytes ++ byte ∷ [])) count ≡ unmarked (bytes ++ replicate count byte)
repeated_taken bytes byte count some fits =
    let counted : (count == 0) ≡ false = grind (arith, nat_tests) in
    rw (counted, last_of bytes byte, equal_put (bytes ++ byte ∷ []) byte (count - 1) fits)
    (ap (λ (xs : List ℕ). unmarked xs) (run_put bytes byte count some))

so_far : (bytes packed : List ℕ) → Packed bytes packed → length bytes ≤ most → taken_below packed (length packed) ≡ unmarked bytes
so_far _ _ nothing fits = refl
so_far _ _ (itself bytes packed byte other before) fits =
    let long : length (bytes ++ byte ∷ []) ≡ length bytes + 1 = length-append bytes (byte ∷ []) in
    one_more packed byte (plain bytes) (so_far bytes packed before (omega (arith, long))) ∙ itself_taken bytes byte other (omega (arith, long))
so_far _ _ (marked bytes packed before) fits =
    let long : length (bytes ++ 0x90 ∷ []) ≡ length bytes + 1 = length-append bytes (0x90 ∷ []) in
    two_more packed 0x90 0 (plain bytes) (behind_mark bytes) (so_far bytes packed before (omega (arith, long))) refl
    ∙ rw (equal_put bytes 0x90 1 (omega (arith, long))) refl
so_far _ _ (repeated bytes packed byte count some before) fits =
    let one : length (bytes ++ byte ∷ []) ≡ length bytes + 1 = length-append bytes (byte ∷ []) in
    let all : length (bytes ++ replicate count byte) ≡ length bytes + count =
    length-append bytes (replicate count byte) ∙ ap (λ (n : ℕ). length bytes + n) (length-replicate count byte) in
    two_more packed 0x90 count (plain (bytes ++ byte ∷ [])) (behind_mark (bytes ++ byte ∷ [])) (so_far (bytes ++ byte ∷ []) packed before (omega (arith, one, all))) refl
    ∙ repeated_taken bytes byte count some (omega (arith, one, all))

pub gives_back : GivesBackPacked
gives_back bytes packed is fits = ap (λ (r : Read). r >>= finished) (so_far bytes packed is fits)
