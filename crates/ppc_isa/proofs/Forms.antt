-- The fields of words in the manual's formats.
use Rattle.std.proofs.Common.{◌≡◌, inl, inr, ℕ, ◌+◌, ◌*◌, ◌/◌, ◌%◌, ◌^◌, ◌<◌, Bool, true, false, ◌==◌, Option, Some, arith, ◌∙◌, ap}
use Rattle.std.proofs.lemmas.Bool.Decides.{nat_tests}
use Rattle.std.specs.Int.{from_bool}
use Rattle.mix_bits.specs.Digits.{digit_of}
use Rattle.ppc_isa.specs.declared.instruction.InstrPpc.{InstrPpc}
use Rattle.ppc_isa.specs.declared.fields.Fields.{Fields}
use Rattle.ppc_isa.specs.Fields.{displacement_of, fields_of}
use Rattle.ppc_isa.specs.inner.FieldRanges.{word_with}
use Rattle.ppc_isa.specs.Words.{immediate_form, extended_form}
use Rattle.ppc_isa.specs.Valid.{IsDisplacement}
use Rattle.ppc_isa.specs.Rows.{found, table}

-- the instruction of fields
abbrev pub read : Fields → Option InstrPpc
read f = found table f

-- a word is the word of its fields
pub whole : (w : ℕ) → w < 2 ^ 32 → word_with (fields_of w) ≡ w
whole w h = omega (arith, h)

-- the fields of an opcode, two fields and sixteen bits
abbrev pub immediate_fields : ℕ → ℕ → ℕ → ℕ → Fields
immediate_fields op d a low = record { op = op; d = d; a = a; b = low / 2 ^ 11; xo = low / 2 % 2 ^ 10; last = (low % 2) == 1; low = low }

pub fields_of-immediate : (op d a low : ℕ) → op < 64 → d < 32 → a < 32 → low < 2 ^ 16 → fields_of (immediate_form op d a low) ≡ immediate_fields op d a low
fields_of-immediate op d a low hop hd ha hlow =
    let w : ℕ = immediate_form op d a low in
    let e1 : digit_of w 26 6 ≡ op = omega arith in
    let e2 : digit_of w 21 5 ≡ d = omega arith in
    let e3 : digit_of w 16 5 ≡ a = omega arith in
    let e4 : digit_of w 11 5 ≡ low / 2 ^ 11 = omega arith in
    let e5 : digit_of w 1 10 ≡ low / 2 % 2 ^ 10 = omega arith in
    let e6 : digit_of w 0 1 ≡ low % 2 = omega arith in
    let e7 : digit_of w 0 16 ≡ low = omega arith in
    cc

-- the fields of an opcode, three fields, an extended opcode and the last bit
abbrev pub extended_fields : ℕ → ℕ → ℕ → ℕ → ℕ → Bool → Fields
extended_fields op d a b xo last = record { op = op; d = d; a = a; b = b; xo = xo; last = last; low = b * 2 ^ 11 + xo * 2 + from_bool last }

pub fields_of-extended : (op d a b xo : ℕ) (last : Bool) → op < 64 → d < 32 → a < 32 → b < 32 → xo < 1024 → fields_of (extended_form op d a b xo last) ≡ extended_fields op d a b xo last
fields_of-extended op d a b xo true hop hd ha hb hxo =
    let w : ℕ = extended_form op d a b xo true in
    let e1 : digit_of w 26 6 ≡ op = omega arith in
    let e2 : digit_of w 21 5 ≡ d = omega arith in
    let e3 : digit_of w 16 5 ≡ a = omega arith in
    let e4 : digit_of w 11 5 ≡ b = omega arith in
    let e5 : digit_of w 1 10 ≡ xo = omega arith in
    let e6 : digit_of w 0 1 ≡ 1 = omega arith in
    let e7 : digit_of w 0 16 ≡ b * 2 ^ 11 + xo * 2 + 1 = omega arith in
    cc
fields_of-extended op d a b xo false hop hd ha hb hxo =
    let w : ℕ = extended_form op d a b xo false in
    let e1 : digit_of w 26 6 ≡ op = omega arith in
    let e2 : digit_of w 21 5 ≡ d = omega arith in
    let e3 : digit_of w 16 5 ≡ a = omega arith in
    let e4 : digit_of w 11 5 ≡ b = omega arith in
    let e5 : digit_of w 1 10 ≡ xo = omega arith in
    let e6 : digit_of w 0 1 ≡ 0 = omega arith in
    let e7 : digit_of w 0 16 ≡ b * 2 ^ 11 + xo * 2 + 0 = omega arith in
    cc

-- what such a word is read as
pub at_immediate : (op d a low : ℕ) (i : InstrPpc) → op < 64 → d < 32 → a < 32 → low < 2 ^ 16 → read (immediate_fields op d a low) ≡ Some i → read (fields_of (immediate_form op d a low)) ≡ Some i
at_immediate op d a low i hop hd ha hlow e = ap read (fields_of-immediate op d a low hop hd ha hlow) ∙ e

pub at_extended : (op d a b xo : ℕ) (last : Bool) (i : InstrPpc) → op < 64 → d < 32 → a < 32 → b < 32 → xo < 1024 → read (extended_fields op d a b xo last) ≡ Some i → read (fields_of (extended_form op d a b xo last)) ≡ Some i
at_extended op d a b xo last i hop hd ha hb hxo e = ap read (fields_of-extended op d a b xo last hop hd ha hb hxo) ∙ e

-- a displacement is the signed number of its low bits
pub displacement_back_16 : (n : ℕ) → IsDisplacement 16 n → displacement_of 16 (n % 2 ^ 16) ≡ n
displacement_back_16 n h = elim h.1 [ inl low ↦ grind (arith, nat_tests, low) | inr high ↦ grind (arith, nat_tests, high.0, high.1) ]

pub displacement_back_26 : (n : ℕ) → IsDisplacement 26 n → displacement_of 26 (n % 2 ^ 26) ≡ n
displacement_back_26 n h = elim h.1 [ inl low ↦ grind (arith, nat_tests, low) | inr high ↦ grind (arith, nat_tests, high.0, high.1) ]

-- a multiple of four with AA and LK behind it
abbrev pub with_marks : ℕ → Bool → Bool → ℕ
with_marks n aa lk = n + from_bool aa * 2 + from_bool lk

pub marks_below : (n : ℕ) (aa lk : Bool) → n % 4 ≡ 0 → with_marks n aa lk / 4 * 4 ≡ n
marks_below n true true h = omega (arith, h)
marks_below n true false h = omega (arith, h)
marks_below n false true h = omega (arith, h)
marks_below n false false h = omega (arith, h)

pub absolute_mark : (n : ℕ) (aa lk : Bool) → n % 4 ≡ 0 → ((with_marks n aa lk / 2 % 2) == 1) ≡ aa
absolute_mark n true true h = grind (arith, nat_tests, h)
absolute_mark n true false h = grind (arith, nat_tests, h)
absolute_mark n false true h = grind (arith, nat_tests, h)
absolute_mark n false false h = grind (arith, nat_tests, h)

pub link_mark : (n : ℕ) (aa lk : Bool) → n % 4 ≡ 0 → ((with_marks n aa lk % 2) == 1) ≡ lk
link_mark n true true h = grind (arith, nat_tests, h)
link_mark n true false h = grind (arith, nat_tests, h)
link_mark n false true h = grind (arith, nat_tests, h)
link_mark n false false h = grind (arith, nat_tests, h)

pub marks_fit : (n k : ℕ) (aa lk : Bool) → n % 4 ≡ 0 → n < 4 * k → with_marks n aa lk < 4 * k
marks_fit n k true true h less = omega (arith, h, less)
marks_fit n k true false h less = omega (arith, h, less)
marks_fit n k false true h less = omega (arith, h, less)
marks_fit n k false false h less = omega (arith, h, less)
