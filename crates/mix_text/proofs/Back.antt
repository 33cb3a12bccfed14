-- A listing gives the bytes that it lists.
use Rattle.std.proofs.Common.{◌≡◌, ℕ, zero, suc, ◌+◌, ◌/◌, ◌%◌, ◌^◌, ◌<◌, ◌==◌, nat_le, nat_lt, List, [], ◌∷◌, ◌++◌, codes, length, drop, slice_index, Bool, true, false, Option, Some, None, Ok, arith, if◌then◌else◌, ◌&&◌, refl, sym, ap, subst, ◌∙◌, append_assoc, eq-eqb, length-append}
use Rattle.std.proofs.lemmas.Bool.Decides.{nat_tests}
use Rattle.mix_bits.specs.Addresses.{onward}
use Rattle.mix_bits.specs.Numbers.{hexadecimal_number}
use Rattle.mix_bits.specs.Text.{hexadecimal}
use Rattle.mix_bits.specs.declared.isa.Isa.{Isa}
use Rattle.mix_bits.proofs.ReadHexadecimals.{reads_hexadecimals}
use Rattle.big_memory.specs.Lists.{part}
use Rattle.big_memory.specs.Memory.{IsRam, Memory}
use Rattle.big_memory.specs.Numbers.{AreBytes}
use Rattle.m68_text.specs.laws.Laws.{NamesAreListed}
use Rattle.mix_text.specs.Listing.{Listed, instruction, line_at, listing, listing_with}
use Rattle.mix_text.specs.Assembling.{Assembles}
use Rattle.mix_text.specs.laws.Laws.{ListingsComeBack, bytes_with, listed_bytes}
use Rattle.mix_text.specs.Lines.{address_in, is_silent, lines_of}
use Rattle.mix_text.proofs.Instructions.{given-addressed}
use Rattle.mix_text.proofs.Bytes.{parts_join}
use Rattle.mix_text.proofs.Listed.{Gives, gives}
use Rattle.mix_text.proofs.OneLines.{OneLine, addressed_line, first_of_lines}

-- a line of a listing without its line feed
abbrev shown : ℕ → List ℕ → List ℕ
shown at text = hexadecimal 8 at ++ codes ": " ++ text

some_bytes : (n : ℕ) → (suc n == 0) ≡ false
some_bytes n = grind (arith, nat_tests)

no_semicolon : (b : Bool) (d : ℕ) → nat_lt d 10 ≡ b → ((if b then 48 + d else 55 + d) == 59) ≡ false
no_semicolon true d is = grind (arith, nat_tests)
no_semicolon false d is = grind (arith, nat_tests)

loud : (at : ℕ) (text : List ℕ) → is_silent (shown at text) ≡ false
loud at text =
    ap (λ b. if b then true else slice_index (shown at text) 0 == 59) (some_bytes (length (drop 1 (shown at text))))
    ∙ no_semicolon (nat_lt (at / 16 ^ 7 % 16) 10) (at / 16 ^ 7 % 16) refl

ten_or_more : (n : ℕ) → nat_le 10 (suc (suc (suc (suc (suc (suc (suc (suc (suc (suc n)))))))))) ≡ true
ten_or_more n = grind (arith, nat_tests)

addressed : (at : ℕ) (text : List ℕ) → at < 2 ^ 32 → address_in (shown at text) ≡ Some at
addressed at text fits =
    ap (λ b. if b && true then hexadecimal_number 8 (hexadecimal 8 at) else None) (ten_or_more (length text))
    ∙ (reads_hexadecimals 8 (hexadecimal 8 at) at).1 (fits, refl)

lines_at : (at : ℕ) (text rest : List ℕ) → OneLine text → lines_of (line_at at text ++ rest) ≡ shown at text ∷ lines_of rest
lines_at at text rest one = ap lines_of (append_assoc (shown at text) (10 ∷ []) rest) ∙ first_of_lines (shown at text) rest (addressed_line at text one)

-- the lines of a listing from any number on
record Back (number count : ℕ) (set : Isa) (m : Memory) (at : ℕ) : Type 0 where
  assembled : Assembles set number at (lines_of (listing count set m at)) (Ok (part at (listed_bytes count set m at) m.bytes))
  whole : length (part at (listed_bytes count set m at) m.bytes) ≡ listed_bytes count set m at

record BackWith (number : ℕ) (o : Option Listed) (set : Isa) (m : Memory) (at : ℕ) (rest : ℕ → List ℕ) (count : ℕ → ℕ) : Type 0 where
  assembled : Assembles set number at (lines_of (listing_with o at rest)) (Ok (part at (bytes_with o at count) m.bytes))
  whole : length (part at (bytes_with o at count) m.bytes) ≡ bytes_with o at count

back_with : NamesAreListed → (number : ℕ) (o : Option Listed) (count : ℕ) (set : Isa) (m : Memory) (at : ℕ) → IsRam m → AreBytes m.bytes → at < 2 ^ 32 → instruction set m at ≡ o
    → ((next : ℕ) → next < 2 ^ 32 → Back (number + 1) count set m next) → BackWith number o set m at (listing count set m) (listed_bytes count set m)
back_with names number None count set m at ram are fits is later = record { assembled = refl; whole = refl }
back_with names number (Some i) count set m at ram are fits is later =
    let own : Gives set m at i = gives names set m at i ram are fits is in
    let next : ℕ = onward at i.bytes in
    let n : ℕ = listed_bytes count set m next in
    let rest : Back (number + 1) count set m next = later next (omega arith) in
    let here : List ℕ = part at i.bytes m.bytes in
    let seam : here ++ part next n m.bytes ≡ part at (i.bytes + n) m.bytes = ap (λ a. here ++ part a n m.bytes) own.next ∙ sym (parts_join at i.bytes n m.bytes) in
    record {
      assembled =
          subst (λ lines. Assembles set number at lines (Ok (part at (i.bytes + n) m.bytes))) (sym (lines_at at i.text (listing count set m next) own.line)) (
            Ok here,
            given-addressed set (shown at i.text) at at (Ok here) (loud at i.text) (addressed at i.text fits) (eq-eqb at at refl) own.bytes,
            (Ok (part next n m.bytes), subst (λ k. Assembles set (number + 1) (onward at k) (lines_of (listing count set m next)) (Ok (part next n m.bytes))) (sym own.long) rest.assembled, ap Ok (sym seam)),
          );
      whole = sym (ap length seam) ∙ length-append here (part next n m.bytes) ∙ ap (λ k. k + length (part next n m.bytes)) own.long ∙ ap (λ k. i.bytes + k) rest.whole;
    }

back : NamesAreListed → (count number : ℕ) (set : Isa) (m : Memory) (at : ℕ) → IsRam m → AreBytes m.bytes → at < 2 ^ 32 → Back number count set m at
unfolding listing listed_bytes
back names zero number set m at ram are fits = record { assembled = refl; whole = refl }
back names (suc count) number set m at ram are fits =
    let one = back_with names number (instruction set m at) count set m at ram are fits refl (λ next below. back names count (number + 1) set m next ram are below) in
    record { assembled = one.assembled; whole = one.whole }

pub comes_back : NamesAreListed → ListingsComeBack
comes_back names count set m at ram are fits =
    let all : Back 1 count set m at = back names count 1 set m at ram are fits in
    record { assembled = all.assembled; whole = all.whole }
