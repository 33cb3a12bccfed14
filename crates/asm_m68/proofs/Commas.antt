-- The commas between operands are those outside parentheses.
use Rattle.std.proofs.Common.{◌≡◌, ℕ, zero, suc, ◌+◌, ◌/◌, ◌%◌, ◌^◌, ◌<◌, ◌==◌, ◌&&◌, not, inl, inr, List, [], ◌∷◌, ◌++◌, length, codes, decimal, Bool, true, false, if◌then◌else◌, arith, refl, ap, ◌∙◌}
use Rattle.std.proofs.lemmas.Bool.{cases_lt}
use Rattle.std.proofs.lemmas.Fmt.{decimal_digit}
use Rattle.std.specs.Fmt.{digit_glyph}
use Rattle.mix_bits.specs.laws.Ranges.{every}
use Rattle.mix_bits.specs.Text.{hexadecimal}
use Rattle.mix_bits.proofs.Every.{every_at}
use Rattle.m68_isa.specs.declared.ea.Index.{Index}
use Rattle.m68_text.specs.declared.operand.Operand.{Operand}
use Rattle.m68_text.specs.declared.operand.Operand.TheVariants.{Data, Pair, Address, Indirect, PostIncrement, PreDecrement, Displaced, Indexed, ShortAddress, LongAddress, PcDisplaced, PcIndexed, Byte, Word, Long, Number, ConditionCodes, StatusRegister, Target}
use Rattle.m68_text.specs.Operands.{hex, operand_text}
use Rattle.asm_m68.specs.laws.Operands.{comma, ends, within}
use Rattle.asm_m68.proofs.Texts.{IsTold, at_scale, indexed_digits, indexed_told, is_scale, number_text, pc_digits, pc_told, small}

-- whether a text has no comma outside parentheses, and ends outside them
abbrev pub scan : Bool → List ℕ → Bool
scan inside [] = not inside
scan inside (c ∷ cs) = if ends inside c then false else scan (within inside c) cs

first_scanned : (b : Bool) (more : Bool) → (if b then false else more) ≡ true → (b ≡ false) × (more ≡ true)
first_scanned true more h = cc
first_scanned false more h = (refl, h)

pub past : (t rest : List ℕ) (inside : Bool) → scan inside t ≡ true → comma inside (t ++ 44 ∷ rest) ≡ length t
past [] rest true h = cc
past [] rest false h = refl
past (c ∷ cs) rest inside h =
    let parts : (ends inside c ≡ false) × (scan (within inside c) cs ≡ true) = first_scanned (ends inside c) (scan (within inside c) cs) h in
    ap (λ b. if b then 0 else suc (comma (within inside c) (cs ++ 44 ∷ rest))) parts.0 ∙ ap suc (past cs rest (within inside c) parts.1)

pub whole : (t : List ℕ) (inside : Bool) → scan inside t ≡ true → comma inside t ≡ length t
whole [] inside h = refl
whole (c ∷ cs) inside h =
    let parts : (ends inside c ≡ false) × (scan (within inside c) cs ≡ true) = first_scanned (ends inside c) (scan (within inside c) cs) h in
    ap (λ b. if b then 0 else suc (comma (within inside c) cs)) parts.0 ∙ ap suc (whole cs (within inside c) parts.1)

-- a byte that is no comma and no parenthesis
abbrev is_plain : ℕ → Bool
is_plain c = if c == 44 then false else if c == 40 then false else if c == 41 then false else true

scan_plain : (c : ℕ) (cs : List ℕ) (inside : Bool) → is_plain c ≡ true → scan inside (c ∷ cs) ≡ scan inside cs
scan_plain c cs inside = by (c == 44) (c == 40) (c == 41)
  where
    by : (a b d : Bool) → (if a then false else if b then false else if d then false else true) ≡ true → (if (a && not inside) then false else scan (if b then true else if d then false else inside) cs) ≡ scan inside cs
    by true b d h = cc
    by false true d h = cc
    by false false true h = cc
    by false false false h = refl

glyphs_plain : every 4 0 (λ x. is_plain (digit_glyph true x)) ≡ true
glyphs_plain = refl

digits_plain : every 4 0 (λ x. is_plain (48 + x)) ≡ true
digits_plain = refl

pub scan_hex : (k v : ℕ) (cs : List ℕ) (inside : Bool) → scan inside (hexadecimal k v ++ cs) ≡ scan inside cs
scan_hex zero v cs inside = refl
scan_hex (suc k) v cs inside =
    scan_plain (digit_glyph true (v / 16 ^ k % 16)) (hexadecimal k v ++ cs) inside (every_at 4 (λ x. is_plain (digit_glyph true x)) (v / 16 ^ k % 16) glyphs_plain (omega arith))
    ∙ scan_hex k v cs inside

scan_digit : (n : ℕ) (cs : List ℕ) (inside : Bool) → n < 16 → scan inside ((48 + n) ∷ cs) ≡ scan inside cs
scan_digit n cs inside below = scan_plain (48 + n) cs inside (every_at 4 (λ x. is_plain (48 + x)) n digits_plain below)

abbrev ScansIndexed : ℕ → ℕ → ℕ → Bool → Bool → ℕ → Type 0
ScansIndexed d n r address long scale = scan false (indexed_digits d ((48 + n) ∷ []) address ((48 + r) ∷ []) long scale) ≡ true

abbrev ScansPc : ℕ → ℕ → Bool → Bool → ℕ → Type 0
ScansPc d r address long scale = scan false (pc_digits d address ((48 + r) ∷ []) long scale) ≡ true

indexed_scanned : (d n r : ℕ) (address long : Bool) (scale : ℕ) → n < 16 → r < 16 → is_scale scale ≡ true → ScansIndexed d n r address long scale
indexed_scanned d n r true true scale base index is =
    at_scale (λ s. ScansIndexed d n r true true s)
    (scan_hex 2 d (codes "(a" ++ ((48 + n) ∷ codes ",a" ++ ((48 + r) ∷ codes ".l)"))) false ∙ scan_digit n (codes ",a" ++ ((48 + r) ∷ codes ".l)")) true base ∙ scan_digit r (codes ".l)") true index)
    (scan_hex 2 d (codes "(a" ++ ((48 + n) ∷ codes ",a" ++ ((48 + r) ∷ codes ".l*2)"))) false ∙ scan_digit n (codes ",a" ++ ((48 + r) ∷ codes ".l*2)")) true base ∙ scan_digit r (codes ".l*2)") true index)
    (scan_hex 2 d (codes "(a" ++ ((48 + n) ∷ codes ",a" ++ ((48 + r) ∷ codes ".l*4)"))) false ∙ scan_digit n (codes ",a" ++ ((48 + r) ∷ codes ".l*4)")) true base ∙ scan_digit r (codes ".l*4)") true index)
    (scan_hex 2 d (codes "(a" ++ ((48 + n) ∷ codes ",a" ++ ((48 + r) ∷ codes ".l*8)"))) false ∙ scan_digit n (codes ",a" ++ ((48 + r) ∷ codes ".l*8)")) true base ∙ scan_digit r (codes ".l*8)") true index)
    scale is
indexed_scanned d n r true false scale base index is =
    at_scale (λ s. ScansIndexed d n r true false s)
    (scan_hex 2 d (codes "(a" ++ ((48 + n) ∷ codes ",a" ++ ((48 + r) ∷ codes ".w)"))) false ∙ scan_digit n (codes ",a" ++ ((48 + r) ∷ codes ".w)")) true base ∙ scan_digit r (codes ".w)") true index)
    (scan_hex 2 d (codes "(a" ++ ((48 + n) ∷ codes ",a" ++ ((48 + r) ∷ codes ".w*2)"))) false ∙ scan_digit n (codes ",a" ++ ((48 + r) ∷ codes ".w*2)")) true base ∙ scan_digit r (codes ".w*2)") true index)
    (scan_hex 2 d (codes "(a" ++ ((48 + n) ∷ codes ",a" ++ ((48 + r) ∷ codes ".w*4)"))) false ∙ scan_digit n (codes ",a" ++ ((48 + r) ∷ codes ".w*4)")) true base ∙ scan_digit r (codes ".w*4)") true index)
    (scan_hex 2 d (codes "(a" ++ ((48 + n) ∷ codes ",a" ++ ((48 + r) ∷ codes ".w*8)"))) false ∙ scan_digit n (codes ",a" ++ ((48 + r) ∷ codes ".w*8)")) true base ∙ scan_digit r (codes ".w*8)") true index)
    scale is
indexed_scanned d n r false true scale base index is =
    at_scale (λ s. ScansIndexed d n r false true s)
    (scan_hex 2 d (codes "(a" ++ ((48 + n) ∷ codes ",d" ++ ((48 + r) ∷ codes ".l)"))) false ∙ scan_digit n (codes ",d" ++ ((48 + r) ∷ codes ".l)")) true base ∙ scan_digit r (codes ".l)") true index)
    (scan_hex 2 d (codes "(a" ++ ((48 + n) ∷ codes ",d" ++ ((48 + r) ∷ codes ".l*2)"))) false ∙ scan_digit n (codes ",d" ++ ((48 + r) ∷ codes ".l*2)")) true base ∙ scan_digit r (codes ".l*2)") true index)
    (scan_hex 2 d (codes "(a" ++ ((48 + n) ∷ codes ",d" ++ ((48 + r) ∷ codes ".l*4)"))) false ∙ scan_digit n (codes ",d" ++ ((48 + r) ∷ codes ".l*4)")) true base ∙ scan_digit r (codes ".l*4)") true index)
    (scan_hex 2 d (codes "(a" ++ ((48 + n) ∷ codes ",d" ++ ((48 + r) ∷ codes ".l*8)"))) false ∙ scan_digit n (codes ",d" ++ ((48 + r) ∷ codes ".l*8)")) true base ∙ scan_digit r (codes ".l*8)") true index)
    scale is
indexed_scanned d n r false false scale base index is =
    at_scale (λ s. ScansIndexed d n r false false s)
    (scan_hex 2 d (codes "(a" ++ ((48 + n) ∷ codes ",d" ++ ((48 + r) ∷ codes ".w)"))) false ∙ scan_digit n (codes ",d" ++ ((48 + r) ∷ codes ".w)")) true base ∙ scan_digit r (codes ".w)") true index)
    (scan_hex 2 d (codes "(a" ++ ((48 + n) ∷ codes ",d" ++ ((48 + r) ∷ codes ".w*2)"))) false ∙ scan_digit n (codes ",d" ++ ((48 + r) ∷ codes ".w*2)")) true base ∙ scan_digit r (codes ".w*2)") true index)
    (scan_hex 2 d (codes "(a" ++ ((48 + n) ∷ codes ",d" ++ ((48 + r) ∷ codes ".w*4)"))) false ∙ scan_digit n (codes ",d" ++ ((48 + r) ∷ codes ".w*4)")) true base ∙ scan_digit r (codes ".w*4)") true index)
    (scan_hex 2 d (codes "(a" ++ ((48 + n) ∷ codes ",d" ++ ((48 + r) ∷ codes ".w*8)"))) false ∙ scan_digit n (codes ",d" ++ ((48 + r) ∷ codes ".w*8)")) true base ∙ scan_digit r (codes ".w*8)") true index)
    scale is

pc_scanned : (d r : ℕ) (address long : Bool) (scale : ℕ) → r < 16 → is_scale scale ≡ true → ScansPc d r address long scale
pc_scanned d r true true scale index is =
    at_scale (λ s. ScansPc d r true true s)
    (scan_hex 2 d (codes "(pc,a" ++ ((48 + r) ∷ codes ".l)")) false ∙ scan_digit r (codes ".l)") true index)
    (scan_hex 2 d (codes "(pc,a" ++ ((48 + r) ∷ codes ".l*2)")) false ∙ scan_digit r (codes ".l*2)") true index)
    (scan_hex 2 d (codes "(pc,a" ++ ((48 + r) ∷ codes ".l*4)")) false ∙ scan_digit r (codes ".l*4)") true index)
    (scan_hex 2 d (codes "(pc,a" ++ ((48 + r) ∷ codes ".l*8)")) false ∙ scan_digit r (codes ".l*8)") true index)
    scale is
pc_scanned d r true false scale index is =
    at_scale (λ s. ScansPc d r true false s)
    (scan_hex 2 d (codes "(pc,a" ++ ((48 + r) ∷ codes ".w)")) false ∙ scan_digit r (codes ".w)") true index)
    (scan_hex 2 d (codes "(pc,a" ++ ((48 + r) ∷ codes ".w*2)")) false ∙ scan_digit r (codes ".w*2)") true index)
    (scan_hex 2 d (codes "(pc,a" ++ ((48 + r) ∷ codes ".w*4)")) false ∙ scan_digit r (codes ".w*4)") true index)
    (scan_hex 2 d (codes "(pc,a" ++ ((48 + r) ∷ codes ".w*8)")) false ∙ scan_digit r (codes ".w*8)") true index)
    scale is
pc_scanned d r false true scale index is =
    at_scale (λ s. ScansPc d r false true s)
    (scan_hex 2 d (codes "(pc,d" ++ ((48 + r) ∷ codes ".l)")) false ∙ scan_digit r (codes ".l)") true index)
    (scan_hex 2 d (codes "(pc,d" ++ ((48 + r) ∷ codes ".l*2)")) false ∙ scan_digit r (codes ".l*2)") true index)
    (scan_hex 2 d (codes "(pc,d" ++ ((48 + r) ∷ codes ".l*4)")) false ∙ scan_digit r (codes ".l*4)") true index)
    (scan_hex 2 d (codes "(pc,d" ++ ((48 + r) ∷ codes ".l*8)")) false ∙ scan_digit r (codes ".l*8)") true index)
    scale is
pc_scanned d r false false scale index is =
    at_scale (λ s. ScansPc d r false false s)
    (scan_hex 2 d (codes "(pc,d" ++ ((48 + r) ∷ codes ".w)")) false ∙ scan_digit r (codes ".w)") true index)
    (scan_hex 2 d (codes "(pc,d" ++ ((48 + r) ∷ codes ".w*2)")) false ∙ scan_digit r (codes ".w*2)") true index)
    (scan_hex 2 d (codes "(pc,d" ++ ((48 + r) ∷ codes ".w*4)")) false ∙ scan_digit r (codes ".w*4)") true index)
    (scan_hex 2 d (codes "(pc,d" ++ ((48 + r) ∷ codes ".w*8)")) false ∙ scan_digit r (codes ".w*8)") true index)
    scale is

indexed_outside : (n : ℕ) (i : Index) → IsTold (Indexed n i) → scan false (operand_text (Indexed n i)) ≡ true
indexed_outside n i told = ap (scan false) (indexed_told n i told.0 told.1) ∙ indexed_scanned i.disp n i.reg i.address i.long i.scale (omega (arith, told.0)) (omega (arith, told.1)) told.2

pc_outside : (i : Index) → IsTold (PcIndexed i) → scan false (operand_text (PcIndexed i)) ≡ true
pc_outside i told = ap (scan false) (pc_told i told.0) ∙ pc_scanned i.disp i.reg i.address i.long i.scale (omega (arith, told.0)) told.1

one_outside : (text : List ℕ → List ℕ) → ((n : ℕ) → n < 16 → scan false (text ((48 + n) ∷ [])) ≡ true) → (n : ℕ) → n < 8 → scan false (text (decimal n)) ≡ true
one_outside text scans n told = ap (λ ds. scan false (text ds)) (small n told) ∙ scans n (omega (arith, told))

number_outside : (n : ℕ) → n < 16 → scan false (operand_text (Number n)) ≡ true
number_outside n below = elim (cases_lt n 10) [
  | inl less ↦ ap (λ ds. scan false (codes "#" ++ ds)) (decimal_digit n less) ∙ scan_digit n [] false below
  | inr more ↦ ap (λ ds. scan false (codes "#" ++ ds)) (number_text n more below) ∙ scan_digit (n % 10) [] false (omega arith)
]

pair_outside : (high low : ℕ) → high < 8 → low < 8 → scan false (operand_text (Pair high low)) ≡ true
pair_outside high low first second =
    ap (λ ds. scan false ((codes "d" ++ ds) ++ codes ":" ++ (codes "d" ++ decimal low))) (small high first)
    ∙ ap (λ ds. scan false ((codes "d" ++ ((48 + high) ∷ [])) ++ codes ":" ++ (codes "d" ++ ds))) (small low second)
    ∙ scan_digit high (codes ":d" ++ ((48 + low) ∷ [])) false (omega (arith, first))
    ∙ scan_digit low [] false (omega (arith, second))

pub outside : (o : Operand) → IsTold o → scan false (operand_text o) ≡ true
outside (Data n) told = one_outside (λ ds. codes "d" ++ ds) (λ m h. scan_digit m [] false h) n told
outside (Pair high low) told = pair_outside high low told.0 told.1
outside (Address n) told = one_outside (λ ds. codes "a" ++ ds) (λ m h. scan_digit m [] false h) n told
outside (Indirect n) told = one_outside (λ ds. codes "(" ++ (codes "a" ++ ds) ++ codes ")") (λ m h. scan_digit m (codes ")") true h) n told
outside (PostIncrement n) told = one_outside (λ ds. (codes "(" ++ (codes "a" ++ ds) ++ codes ")") ++ codes "+") (λ m h. scan_digit m (codes ")+") true h) n told
outside (PreDecrement n) told = one_outside (λ ds. codes "-" ++ (codes "(" ++ (codes "a" ++ ds) ++ codes ")")) (λ m h. scan_digit m (codes ")") true h) n told
outside (Displaced n d) told = one_outside (λ ds. hex 4 d ++ (codes "(" ++ (codes "a" ++ ds) ++ codes ")")) (λ m h. scan_hex 4 d (codes "(a" ++ ((48 + m) ∷ codes ")")) false ∙ scan_digit m (codes ")") true h) n told
outside (Indexed n i) told = indexed_outside n i told
outside (ShortAddress a) told = scan_hex 4 a (codes ".w") false
outside (LongAddress a) told = scan_hex 8 a (codes ".l") false
outside (PcDisplaced d) told = scan_hex 4 d (codes "(pc)") false
outside (PcIndexed i) told = pc_outside i told
outside (Byte v) told = scan_hex 2 v [] false
outside (Word v) told = scan_hex 4 v [] false
outside (Long v) told = scan_hex 8 v [] false
outside (Number n) told = number_outside n told
outside ConditionCodes told = refl
outside StatusRegister told = refl
outside (Target a) told = scan_hex 8 a [] false
