-- Parts that stand behind each other give the forks back.
use Rattle.std.proofs.Common.{◌≡◌, ◌∙◌, ap, sym, refl, ℕ, ◌+◌, ◌-◌, ◌≤◌, ◌==◌, false, true, nat_lt, List, ◌++◌, [], length, take, Option, None, Result, Ok, append_assoc, arith, le-ltb, eq-eqb, zero-add}
use Rattle.std.specs.Prelude.{slice_range}
use Rattle.std.proofs.lemmas.Bool.Decides.{nat_tests}
use Rattle.std.proofs.lemmas.List.{append-nil, drop_at, length-append, take_at}
use Rattle.mix_bits.specs.Fields.{word_at}
use Rattle.mix_bits.specs.Results.{◌>>=◌}
use Rattle.crc16.specs.Checksum.{checksum_of}
use Rattle.binhex.specs.declared.error.BinHexError.{BinHexError}
use Rattle.binhex.specs.declared.error.Part.{Part}
use Rattle.binhex.specs.declared.error.Part.TheVariants.{Header, DataFork, ResourceFork}
use Rattle.binhex.specs.Forks.{ForkBytes, by_refusal, forks_at, forks_in, forks_of}
use Rattle.binhex.specs.Packing.{bytes_of}
use Rattle.binhex.specs.Parts.{data_length, data_start, header_length, refusal_at, refusal_of, resource_length, resource_start}
use Rattle.binhex.specs.Runs.{expanded}
use Rattle.binhex.specs.Text.{symbols_of}
use Rattle.binhex.specs.laws.Wholes.{GivesForksBack, IsBinHexFile, IsSum}
use Rattle.binhex.proofs.Packed.{gives_back}

-- the piece behind a front
piece : (front part rest : List ℕ) (n m : ℕ) → length front ≡ n → length part ≡ m → slice_range (front ++ (part ++ rest)) n (n + m) ≡ part
piece front part rest n m before long =
    ap (λ (xs : List ℕ). take (n + m - n) xs) (drop_at front (part ++ rest) n before) ∙ take_at part rest (n + m - n) (omega (arith, long))

total : (whole front part rest : List ℕ) → whole ≡ front ++ (part ++ rest) → length whole ≡ length front + (length part + length rest)
total whole front part rest laid =
    ap (λ (xs : List ℕ). length xs) laid ∙ (length-append front (part ++ rest) ∙ ap (λ (n : ℕ). length front + n) (length-append part rest))

piece_in : (whole front part rest : List ℕ) (n m : ℕ) → whole ≡ front ++ (part ++ rest) → length front ≡ n → length part ≡ m
    → slice_range whole n (n + m) ≡ part
piece_in whole front part rest n m laid before long =
    ap (λ (xs : List ℕ). slice_range xs n (n + m)) laid ∙ piece front part rest n m before long

-- a word alone
alone : (sum : List ℕ) → length sum ≡ 2 → slice_range sum 0 2 ≡ sum
alone sum long = ap (λ (xs : List ℕ). slice_range xs 0 2) (sym (append-nil sum)) ∙ piece [] sum [] 0 2 refl long

-- words of equal bytes are equal
same_word : (xs ys : List ℕ) (n m : ℕ) → slice_range xs n (n + 2) ≡ slice_range ys m (m + 2) → word_at xs n ≡ word_at ys m
same_word xs ys n m same = rw same refl

-- a part with its check sum behind it is not refused
passes : (whole front part sum rest : List ℕ) (which : Part) (start count : ℕ) → whole ≡ front ++ (part ++ (sum ++ rest)) → length front ≡ start
    → length part ≡ count → IsSum part sum → refusal_at whole which start (start + count) ≡ None
passes whole front part sum rest which start count laid before long is =
    let two : length sum ≡ 2 = is.long in
    let all : length whole ≡ length front + (length part + length (sum ++ rest)) = total whole front part (sum ++ rest) laid in
    let behind : length (sum ++ rest) ≡ length sum + length rest = length-append sum rest in
    let fits : nat_lt (length whole) (start + count + 2) ≡ false = le-ltb (length whole) (start + count + 2) (omega (arith, all, behind, two, before, long)) in
    let there : slice_range whole start (start + count) ≡ part = piece_in whole front part (sum ++ rest) start count laid before long in
    let front_long : length (front ++ part) ≡ start + count = length-append front part ∙ omega (arith, before, long) in
    let summed : slice_range whole (start + count) (start + count + 2) ≡ sum =
    piece_in whole (front ++ part) sum rest (start + count) 2 (laid ∙ sym (append_assoc front part (sum ++ rest))) front_long two in
    let word : word_at whole (start + count) ≡ checksum_of part = same_word whole sum (start + count) 0 (summed ∙ sym (alone sum two)) ∙ is.right in
    let same : (checksum_of (slice_range whole start (start + count)) == word_at whole (start + count)) ≡ true =
    eq-eqb _ _ (ap (λ (xs : List ℕ). checksum_of xs) there ∙ sym word) in
    rw (fits, same) refl

regrouped : (h s d t r : List ℕ) → h ++ (s ++ (d ++ (t ++ r))) ≡ (h ++ (s ++ (d ++ t))) ++ r
regrouped h s d t r =
    sym (append_assoc h (s ++ (d ++ t)) r ∙ ap (λ (xs : List ℕ). h ++ xs) (append_assoc s (d ++ t) r ∙ ap (λ (xs : List ℕ). s ++ xs) (append_assoc d t r)))

module _ (file text whole header header_sum data_fork data_sum resource_fork resource_sum rest : List ℕ)
    (is : IsBinHexFile file text whole header header_sum data_fork data_sum resource_fork resource_sum rest) where
  data_laid : whole ≡ (header ++ header_sum) ++ (data_fork ++ (data_sum ++ (resource_fork ++ (resource_sum ++ rest))))
  data_laid = is.laid ∙ sym (append_assoc header header_sum (data_fork ++ (data_sum ++ (resource_fork ++ (resource_sum ++ rest)))))

  data_front : length (header ++ header_sum) ≡ data_start whole
  data_front =
      let two : length header_sum ≡ 2 = is.header_summed.long in
      length-append header header_sum ∙ omega (arith, is.header_long, two)

  resource_laid : whole ≡ (header ++ (header_sum ++ (data_fork ++ data_sum))) ++ (resource_fork ++ (resource_sum ++ rest))
  resource_laid = is.laid ∙ regrouped header header_sum data_fork data_sum (resource_fork ++ (resource_sum ++ rest))

  resource_front : length (header ++ (header_sum ++ (data_fork ++ data_sum))) ≡ resource_start whole
  resource_front =
      let two : length header_sum ≡ 2 = is.header_summed.long in
      let more : length data_sum ≡ 2 = is.data_summed.long in
      let fork : length data_fork ≡ data_length whole = is.data_named in
      length-append header (header_sum ++ (data_fork ++ data_sum))
      ∙ (ap (λ (n : ℕ). length header + n) (length-append header_sum (data_fork ++ data_sum)
      ∙ ap (λ (n : ℕ). length header_sum + n) (length-append data_fork data_sum))
      ∙ omega (arith, is.header_long, two, more, fork))

  header_passes : refusal_at whole Header 0 (header_length whole) ≡ None
  header_passes =
      ap (λ (n : ℕ). refusal_at whole Header 0 n) (sym (zero-add (header_length whole)))
      ∙ passes whole [] header header_sum (data_fork ++ (data_sum ++ (resource_fork ++ (resource_sum ++ rest)))) Header 0 (header_length whole)
      is.laid refl is.header_long is.header_summed

  data_passes : refusal_at whole DataFork (data_start whole) (data_start whole + data_length whole) ≡ None
  data_passes =
      passes whole (header ++ header_sum) data_fork data_sum (resource_fork ++ (resource_sum ++ rest)) DataFork (data_start whole) (data_length whole)
      data_laid data_front is.data_named is.data_summed

  resource_passes : refusal_at whole ResourceFork (resource_start whole) (resource_start whole + resource_length whole) ≡ None
  resource_passes =
      passes whole (header ++ (header_sum ++ (data_fork ++ data_sum))) resource_fork resource_sum rest ResourceFork (resource_start whole) (resource_length whole)
      resource_laid resource_front is.resource_named is.resource_summed

  not_refused : refusal_of whole ≡ None
  not_refused =
      let all : length whole ≡ 0 + (length header + length (header_sum ++ (data_fork ++ (data_sum ++ (resource_fork ++ (resource_sum ++ rest)))))) =
      total whole [] header (header_sum ++ (data_fork ++ (data_sum ++ (resource_fork ++ (resource_sum ++ rest))))) is.laid in
      let there : (length whole == 0) ≡ false = not_none (length whole) (length header) (header_length whole) is.header_long (omega arith) (omega (arith, all)) in
      rw (there, header_passes, data_passes) resource_passes
    where
      not_none : (n h l : ℕ) → h ≡ l → 20 ≤ l → h ≤ n → (n == 0) ≡ false
      not_none n h l same least fits = grind (arith, nat_tests)

  forks_are : forks_at whole ≡ record {
    data_fork = data_fork;
    resource_fork = resource_fork;
  }
  forks_are =
      let data_is : slice_range whole (data_start whole) (data_start whole + data_length whole) ≡ data_fork =
      piece_in whole (header ++ header_sum) data_fork (data_sum ++ (resource_fork ++ (resource_sum ++ rest))) (data_start whole) (data_length whole)
      data_laid data_front is.data_named in
      let resource_is : slice_range whole (resource_start whole) (resource_start whole + resource_length whole) ≡ resource_fork =
      piece_in whole (header ++ (header_sum ++ (data_fork ++ data_sum))) resource_fork (resource_sum ++ rest) (resource_start whole) (resource_length whole)
      resource_laid resource_front is.resource_named in
      rw (data_is, resource_is) refl

  back : forks_of file ≡ Ok (record {
    data_fork = data_fork;
    resource_fork = resource_fork;
  })
  back =
      ap (λ (r : Result (List ℕ) BinHexError). r >>= λ text. expanded (bytes_of (symbols_of text)) >>= forks_in) is.read
      ∙ (ap (λ (r : Result (List ℕ) BinHexError). r >>= forks_in) (gives_back whole (bytes_of (symbols_of text)) is.packed is.few)
      ∙ (ap (λ (o : Option BinHexError). by_refusal whole o) not_refused ∙ ap (λ (f : ForkBytes). Ok f) forks_are))

pub forks_back : GivesForksBack
forks_back file text whole header header_sum data_fork data_sum resource_fork resource_sum rest is =
    back file text whole header header_sum data_fork data_sum resource_fork resource_sum rest is
