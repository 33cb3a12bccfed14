-- The operands of instructions are read back from their texts.
use Rattle.std.proofs.Common.{◌≡◌, ℕ, ◌+◌, ◌*◌, ◌/◌, ◌%◌, ◌<◌, ◌≤◌, ◌==◌, inl, inr, List, [], ◌∷◌, ◌++◌, codes, decimal, slice_index, Bool, true, false, if◌then◌else◌, arith, refl, sym, ap, subst, ◌∙◌}
use Rattle.std.proofs.lemmas.Bool.{cases_lt, eqb-true}
use Rattle.std.specs.Fmt.{digit_glyph}
use Rattle.std.proofs.lemmas.Fmt.{decimal_digit, decimal_step}
use Rattle.m68_isa.specs.declared.ea.Index.{Index}
use Rattle.m68_text.specs.declared.operand.Operand.{Operand}
use Rattle.m68_text.specs.declared.operand.Operand.TheVariants.{Data, Pair, Address, Indirect, PostIncrement, PreDecrement, Displaced, Indexed, ShortAddress, LongAddress, PcDisplaced, PcIndexed, Byte, Word, Long, Number, ConditionCodes, StatusRegister, Target}
use Rattle.m68_text.specs.Operands.{hex, operand_text, scale_text}
use Rattle.asm_m68.specs.Reading.{hex_4, hex_8, read, register}
use Rattle.asm_m68.proofs.Digits.{digit_back, eight_digits, four_digits, glyph_no_bracket, register_back, two, two_digits}

-- The operands as their texts tell them: their low digits.

abbrev pub cut_index : Index → Index
cut_index i = record i { disp = i.disp % 256 }

abbrev pub cut : Operand → Operand
cut (Displaced n d) = Displaced n (d % 65536)
cut (Indexed n i) = Indexed n (cut_index i)
cut (ShortAddress a) = ShortAddress (a % 65536)
cut (LongAddress a) = LongAddress (a % 4294967296)
cut (PcDisplaced d) = PcDisplaced (d % 65536)
cut (PcIndexed i) = PcIndexed (cut_index i)
cut (Byte v) = Byte (v % 256)
cut (Word v) = Word (v % 65536)
cut (Long v) = Long (v % 4294967296)
cut (Target a) = Target (a % 4294967296)
cut (Data n) = Data n
cut (Pair high low) = Pair high low
cut (Address n) = Address n
cut (Indirect n) = Indirect n
cut (PostIncrement n) = PostIncrement n
cut (PreDecrement n) = PreDecrement n
cut (Number n) = Number n
cut ConditionCodes = ConditionCodes
cut StatusRegister = StatusRegister

abbrev pub is_scale : ℕ → Bool
is_scale s = if s == 1 then true else if s == 2 then true else if s == 4 then true else s == 8

-- what the operands of instructions are
abbrev pub IsTold : Operand → Type 0
IsTold (Data n) = n < 8
IsTold (Pair high low) = (high < 8) × (low < 8)
IsTold (Address n) = n < 8
IsTold (Indirect n) = n < 8
IsTold (PostIncrement n) = n < 8
IsTold (PreDecrement n) = n < 8
IsTold (Displaced n d) = n < 8
IsTold (Indexed n i) = (n < 8) × (i.reg < 8) × (is_scale i.scale ≡ true)
IsTold (PcIndexed i) = (i.reg < 8) × (is_scale i.scale ≡ true)
IsTold (Number n) = n < 16
IsTold (ShortAddress a) = Unit {0}
IsTold (LongAddress a) = Unit {0}
IsTold (PcDisplaced d) = Unit {0}
IsTold (Byte v) = Unit {0}
IsTold (Word v) = Unit {0}
IsTold (Long v) = Unit {0}
IsTold ConditionCodes = Unit {0}
IsTold StatusRegister = Unit {0}
IsTold (Target a) = Unit {0}

pub small : (n : ℕ) → n < 8 → decimal n ≡ (48 + n) ∷ []
small n below = decimal_digit n (omega (arith, below))

-- at each scale
pub at_scale : (P : ℕ → Type 0) → P 1 → P 2 → P 4 → P 8 → (s : ℕ) → is_scale s ≡ true → P s
at_scale P one two four eight s is = by (s == 1) (s == 2) (s == 4) (s == 8) refl refl refl refl is
  where
    by : (a b c d : Bool) → (s == 1) ≡ a → (s == 2) ≡ b → (s == 4) ≡ c → (s == 8) ≡ d → (if a then true else if b then true else if c then true else d) ≡ true → P s
    by true b c d e f g h is = subst P (sym (eqb-true s 1 e)) one
    by false true c d e f g h is = subst P (sym (eqb-true s 2 f)) two
    by false false true d e f g h is = subst P (sym (eqb-true s 4 g)) four
    by false false false true e f g h is = subst P (sym (eqb-true s 8 h)) eight
    by false false false false e f g h is = cc

-- Texts with the digits of their registers.

abbrev pub register_digits : Bool → List ℕ → List ℕ
register_digits address ds = if address then codes "a" ++ ds else codes "d" ++ ds

abbrev pub index_digits : Bool → List ℕ → Bool → ℕ → List ℕ
index_digits address ds long scale = register_digits address ds ++ (if long then codes ".l" else codes ".w") ++ scale_text scale

abbrev pub indexed_digits : ℕ → List ℕ → Bool → List ℕ → Bool → ℕ → List ℕ
indexed_digits d ns address ds long scale = hex 2 d ++ codes "(" ++ (codes "a" ++ ns) ++ codes "," ++ index_digits address ds long scale ++ codes ")"

abbrev pub pc_digits : ℕ → Bool → List ℕ → Bool → ℕ → List ℕ
pc_digits d address ds long scale = hex 2 d ++ codes "(pc," ++ index_digits address ds long scale ++ codes ")"

pub indexed_told : (n : ℕ) (i : Index) → n < 8 → i.reg < 8 → operand_text (Indexed n i) ≡ indexed_digits i.disp ((48 + n) ∷ []) i.address ((48 + i.reg) ∷ []) i.long i.scale
indexed_told n i base index =
    ap (λ ns. indexed_digits i.disp ns i.address (decimal i.reg) i.long i.scale) (small n base)
    ∙ ap (λ ds. indexed_digits i.disp ((48 + n) ∷ []) i.address ds i.long i.scale) (small i.reg index)

pub pc_told : (i : Index) → i.reg < 8 → operand_text (PcIndexed i) ≡ pc_digits i.disp i.address ((48 + i.reg) ∷ []) i.long i.scale
pc_told i index = ap (λ ds. pc_digits i.disp i.address ds i.long i.scale) (small i.reg index)

abbrev index_at : ℕ → ℕ → Bool → Bool → ℕ → Index
index_at d r address long scale = record { reg = r; address = address; long = long; scale = scale; disp = d }

index_back : (make : Index → Operand) (d d' r r' : ℕ) (address long : Bool) (scale : ℕ) → d ≡ d' → r ≡ r' → make (index_at d r address long scale) ≡ make (index_at d' r' address long scale)
index_back make d d' r r' address long scale e f = ap (λ x. make (index_at x r address long scale)) e ∙ ap (λ y. make (index_at d' y address long scale)) f

abbrev ReadsIndexed : ℕ → ℕ → ℕ → Bool → Bool → ℕ → Type 0
ReadsIndexed d n r address long scale = read (indexed_digits d ((48 + n) ∷ []) address ((48 + r) ∷ []) long scale) ≡ Indexed ((48 + n) % 8) (index_at (two (d / 16 % 16) (d / 1 % 16)) ((48 + r) % 8) address long scale)

abbrev ReadsPc : ℕ → ℕ → Bool → Bool → ℕ → Type 0
ReadsPc d r address long scale = read (pc_digits d address ((48 + r) ∷ []) long scale) ≡ PcIndexed (index_at (two (d / 16 % 16) (d / 1 % 16)) ((48 + r) % 8) address long scale)

indexed_read : (d n r : ℕ) (address long : Bool) (scale : ℕ) → is_scale scale ≡ true → ReadsIndexed d n r address long scale
indexed_read d n r true true scale is = at_scale (λ s. ReadsIndexed d n r true true s) refl refl refl refl scale is
indexed_read d n r true false scale is = at_scale (λ s. ReadsIndexed d n r true false s) refl refl refl refl scale is
indexed_read d n r false true scale is = at_scale (λ s. ReadsIndexed d n r false true s) refl refl refl refl scale is
indexed_read d n r false false scale is = at_scale (λ s. ReadsIndexed d n r false false s) refl refl refl refl scale is

pc_read : (d r : ℕ) (address long : Bool) (scale : ℕ) → is_scale scale ≡ true → ReadsPc d r address long scale
pc_read d r true true scale is = at_scale (λ s. ReadsPc d r true true s) refl refl refl refl scale is
pc_read d r true false scale is = at_scale (λ s. ReadsPc d r true false s) refl refl refl refl scale is
pc_read d r false true scale is = at_scale (λ s. ReadsPc d r false true s) refl refl refl refl scale is
pc_read d r false false scale is = at_scale (λ s. ReadsPc d r false false s) refl refl refl refl scale is

indexed_operand : (n : ℕ) (i : Index) → IsTold (Indexed n i) → read (operand_text (Indexed n i)) ≡ cut (Indexed n i)
indexed_operand n i told =
    ap read (indexed_told n i told.0 told.1)
    ∙ indexed_read i.disp n i.reg i.address i.long i.scale told.2
    ∙ ap (λ m. Indexed m (index_at (two (i.disp / 16 % 16) (i.disp / 1 % 16)) ((48 + i.reg) % 8) i.address i.long i.scale)) (register_back n told.0)
    ∙ index_back (Indexed n) _ _ _ _ i.address i.long i.scale (two_digits i.disp) (register_back i.reg told.1)

pc_operand : (i : Index) → IsTold (PcIndexed i) → read (operand_text (PcIndexed i)) ≡ cut (PcIndexed i)
pc_operand i told =
    ap read (pc_told i told.0)
    ∙ pc_read i.disp i.reg i.address i.long i.scale told.1
    ∙ index_back PcIndexed _ _ _ _ i.address i.long i.scale (two_digits i.disp) (register_back i.reg told.0)

displaced_operand : (n d : ℕ) → n < 8 → read (operand_text (Displaced n d)) ≡ Displaced n (d % 65536)
displaced_operand n d told =
    ap (λ ds. read (hex 4 d ++ (codes "(" ++ (codes "a" ++ ds) ++ codes ")"))) (small n told)
    ∙ ap (λ v. Displaced ((48 + n) % 8) v) (four_digits d)
    ∙ ap (λ m. Displaced m (d % 65536)) (register_back n told)

pub number_text : (n : ℕ) → 10 ≤ n → n < 16 → decimal n ≡ 49 ∷ (48 + n % 10) ∷ []
number_text n ten below =
    let one : n / 10 ≡ 1 = omega (arith, ten, below) in
    decimal_step n ten (omega (arith, below))
    ∙ ap (λ m. decimal m ++ ((48 + n % 10) ∷ [])) one
    ∙ ap (λ ds. ds ++ ((48 + n % 10) ∷ [])) (decimal_digit 1 (omega arith))

number_operand : (n : ℕ) → n < 16 → read (operand_text (Number n)) ≡ Number n
number_operand n below = elim (cases_lt n 10) [
  | inl less ↦ ap (λ ds. read (codes "#" ++ ds)) (decimal_digit n less) ∙ ap Number (digit_back n less)
  | inr more ↦
      let e : 49 % 16 * 10 + (48 + n % 10) % 16 ≡ n = omega (arith, more, below) in
      ap (λ ds. read (codes "#" ++ ds)) (number_text n more below) ∙ ap Number e
]

-- a text of one register
one_register : (make : ℕ → Operand) (text : List ℕ → List ℕ) → ((d : ℕ) → read (text (d ∷ [])) ≡ make (d % 8)) → (n : ℕ) → n < 8 → read (text (decimal n)) ≡ make n
one_register make text reads n told = ap (λ ds. read (text ds)) (small n told) ∙ reads (48 + n) ∙ ap make (register_back n told)

pair_operand : (high low : ℕ) → high < 8 → low < 8 → read (operand_text (Pair high low)) ≡ Pair high low
pair_operand high low first second =
    ap (λ ds. read ((codes "d" ++ ds) ++ codes ":" ++ (codes "d" ++ decimal low))) (small high first)
    ∙ ap (λ ds. read ((codes "d" ++ ((48 + high) ∷ [])) ++ codes ":" ++ (codes "d" ++ ds))) (small low second)
    ∙ ap (λ m. Pair m ((48 + low) % 8)) (register_back high first)
    ∙ ap (λ m. Pair high m) (register_back low second)

-- an address alone has no parenthesis in the place of a displacement's
target_operand : (a : ℕ) → read (operand_text (Target a)) ≡ Target (a % 4294967296)
target_operand a =
    let t : List ℕ = operand_text (Target a) in
    let e : (digit_glyph true (a / 4096 % 16) == 40) ≡ false = glyph_no_bracket (a / 4096 % 16) (omega arith) in
    ap (λ b. if b then (if slice_index t 6 == 97 then Displaced (register t 7) (hex_4 t 1) else PcDisplaced (hex_4 t 1)) else Target (hex_8 t 1)) e
    ∙ ap Target (eight_digits a)

pub read_back : (o : Operand) → IsTold o → read (operand_text o) ≡ cut o
read_back (Data n) told = one_register Data (λ ds. codes "d" ++ ds) (λ d. refl) n told
read_back (Pair high low) told = pair_operand high low told.0 told.1
read_back (Address n) told = one_register Address (λ ds. codes "a" ++ ds) (λ d. refl) n told
read_back (Indirect n) told = one_register Indirect (λ ds. codes "(" ++ (codes "a" ++ ds) ++ codes ")") (λ d. refl) n told
read_back (PostIncrement n) told = one_register PostIncrement (λ ds. (codes "(" ++ (codes "a" ++ ds) ++ codes ")") ++ codes "+") (λ d. refl) n told
read_back (PreDecrement n) told = one_register PreDecrement (λ ds. codes "-" ++ (codes "(" ++ (codes "a" ++ ds) ++ codes ")")) (λ d. refl) n told
read_back (Displaced n d) told = displaced_operand n d told
read_back (Indexed n i) told = indexed_operand n i told
read_back (ShortAddress a) told = ap ShortAddress (four_digits a)
read_back (LongAddress a) told = ap LongAddress (eight_digits a)
read_back (PcDisplaced d) told = ap PcDisplaced (four_digits d)
read_back (PcIndexed i) told = pc_operand i told
read_back (Byte v) told = ap Byte (two_digits v)
read_back (Word v) told = ap Word (four_digits v)
read_back (Long v) told = ap Long (eight_digits v)
read_back (Number n) told = number_operand n told
read_back ConditionCodes told = refl
read_back StatusRegister told = refl
read_back (Target a) told = target_operand a
