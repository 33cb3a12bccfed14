-- No text of an instruction holds a line feed.
use Rattle.std.proofs.Common.{◌≡◌, ℕ, zero, suc, ◌+◌, ◌/◌, ◌%◌, ◌^◌, ◌<◌, ◌==◌, inl, inr, nat_lt, List, [], ◌∷◌, ◌++◌, map, codes, decimal, Bool, true, false, Option, Some, None, ℤ, pos, negsuc, if◌then◌else◌, arith, refl, ap, subst, ◌∙◌}
use Rattle.std.proofs.lemmas.Bool.{or_cases}
use Rattle.std.proofs.lemmas.Bool.Decides.{nat_tests}
use Rattle.std.proofs.lemmas.Slice.Eq.{bytes_eq-Decides}
use Rattle.std.specs.Fmt.{digit_glyph, digits, digits_onto, signed_decimal}
use Rattle.std.specs.List.{join_with_byte, list_any}
use Rattle.std.specs.Str.{bytes_eq}
use Rattle.mix_bits.specs.Sizes.{signed_of}
use Rattle.mix_bits.specs.Text.{hexadecimal}
use Rattle.mix_bits.specs.declared.size.Size.TheVariants.{Two as TwoBytes}
use Rattle.mix_bits.proofs.Conditions.{both}
use Rattle.m68_isa.specs.declared.ea.Index.{Index}
use Rattle.m68_isa.specs.declared.instructions.Decoded68.{Decoded68}
use Rattle.m68_isa.specs.declared.instructions.Decoded68.TheVariants.{Op, LineA, LineF, Privileged, Illegal, Short}
use Rattle.m68_isa.specs.Decode.{decoded}
use Rattle.m68_text.specs.declared.operand.Operand.{Operand as Operand68}
use Rattle.m68_text.specs.declared.operand.Operand.TheVariants.{Data, Pair, Address, Indirect, PostIncrement, PreDecrement, Displaced, Indexed, ShortAddress, LongAddress, PcDisplaced, PcIndexed, Byte, Word, Long, Number, ConditionCodes, StatusRegister, Target}
use Rattle.m68_text.specs.laws.Laws.{NamesAreListed}
use Rattle.m68_text.specs.Listed.{conditions as conditions_m68, names as names_m68, plain_names as plain_m68, stems as stems_m68, tested as tested_m68, wide_stems as wide_m68}
use Rattle.m68_text.specs.Instructions.{name as name_m68, operands as operands_m68}
use Rattle.m68_text.specs.Operands.{address_register, data_register, hex, index_text, indirect, operand_text as text_m68, operands_text as operands_text_m68, scale_text}
use Rattle.m68_text.specs.Text.{text_of as text_of_m68}
use Rattle.ppc_isa.specs.declared.instruction.InstrPpc.{InstrPpc}
use Rattle.ppc_isa.specs.Rows.{decoded as decoded_ppc}
use Rattle.ppc_text.specs.declared.operand.Operand.{Operand as OperandPpc}
use Rattle.ppc_text.specs.declared.operand.Operand.TheVariants.{Register, Number as NumberPpc, Signed, Displaced as DisplacedPpc, Target as TargetPpc}
use Rattle.ppc_text.specs.Listed.{names as names_ppc, shapes}
use Rattle.ppc_text.specs.Instructions.{name as name_ppc, operands as operands_ppc}
use Rattle.ppc_text.specs.Operands.{operand_text as text_ppc, operands_text as operands_text_ppc, register_text}
use Rattle.ppc_text.specs.Text.{text_of as text_of_ppc, word_text}
use Rattle.ppc_text.proofs.NameLists.{names_listed}
use Rattle.mix_text.specs.Lines.{lines_of, with_byte}

abbrev pub is_one_line : List ℕ → Bool
is_one_line [] = true
is_one_line (b ∷ bs) = if b == 10 then false else is_one_line bs

pub record OneLine (text : List ℕ) : Type 0 where
  pub holds : is_one_line text ≡ true

lit : (text : List ℕ) → is_one_line text ≡ true → OneLine text
lit text h = record { holds = h }

more : (b : ℕ) (rest : List ℕ) → (b == 10) ≡ false → is_one_line rest ≡ true → is_one_line (b ∷ rest) ≡ true
more b rest other h = ap (λ t. if t then false else is_one_line rest) other ∙ h

less : (t more also : Bool) → (if t then false else more) ≡ true → (more ≡ true → also ≡ true) → (if t then false else also) ≡ true
less true more also h f = cc
less false more also h f = f h

joins : (xs ys : List ℕ) → is_one_line xs ≡ true → is_one_line ys ≡ true → is_one_line (xs ++ ys) ≡ true
joins [] ys first second = second
joins (x ∷ xs) ys first second = less (x == 10) (is_one_line xs) (is_one_line (xs ++ ys)) first (λ h. joins xs ys h second)

join : {xs ys : List ℕ} → OneLine xs → OneLine ys → OneLine (xs ++ ys)
join {xs} {ys} first second = record { holds = joins xs ys first.holds second.holds }

-- Digits.

other_glyph : (b : Bool) (upper : Bool) (d n : ℕ) → n < 48 → ((if b then 48 + d else (if upper then 55 + d else 87 + d)) == n) ≡ false
other_glyph true upper d n low = grind (arith, nat_tests)
other_glyph false true d n low = grind (arith, nat_tests)
other_glyph false false d n low = grind (arith, nat_tests)

hexadecimal_line : (k v : ℕ) → is_one_line (hexadecimal k v) ≡ true
hexadecimal_line zero v = refl
hexadecimal_line (suc k) v = more _ (hexadecimal k v) (other_glyph (nat_lt (v / 16 ^ k % 16) 10) true (v / 16 ^ k % 16) 10 (omega arith)) (hexadecimal_line k v)

if_lines : (t : Bool) (xs ys : List ℕ) → is_one_line xs ≡ true → is_one_line ys ≡ true → is_one_line (if t then xs else ys) ≡ true
if_lines true xs ys first second = first
if_lines false xs ys first second = second

onto_line : (k n : ℕ) (acc : List ℕ) → is_one_line acc ≡ true → is_one_line (digits_onto k 10 false n acc) ≡ true
onto_line zero n acc h = h
onto_line (suc k) n acc h =
    let here : is_one_line (digit_glyph false (n % 10) ∷ acc) ≡ true = more _ acc (other_glyph (nat_lt (n % 10) 10) false (n % 10) 10 (omega arith)) h in
    if_lines (n / 10 == 0) (digit_glyph false (n % 10) ∷ acc) (digits_onto k 10 false (n / 10) (digit_glyph false (n % 10) ∷ acc)) here (onto_line k (n / 10) (digit_glyph false (n % 10) ∷ acc) here)

decimal_line : (n : ℕ) → OneLine (decimal n)
unfolding digits
decimal_line n = record { holds = onto_line 64 n [] refl }

pub hex_line : (k v : ℕ) → OneLine (hexadecimal k v)
hex_line k v = record { holds = hexadecimal_line k v }

dollar_line : (k v : ℕ) → OneLine (hex k v)
dollar_line k v = join (lit (codes "$") refl) (hex_line k v)

signed_line : (z : ℤ) → OneLine (signed_decimal z)
signed_line (pos n) = decimal_line n
signed_line (negsuc n) = join (lit (45 ∷ []) refl) (decimal_line (suc n))

-- Operands.

joined_line : {X : Type 0} (text : X → List ℕ) → ((x : X) → OneLine (text x)) → (xs : List X) → OneLine (join_with_byte 44 (map text xs))
joined_line {X} text each [] = lit [] refl
joined_line {X} text each (x ∷ []) = each x
joined_line {X} text each (x ∷ y ∷ xs) = join (each x) (join (lit (44 ∷ []) refl) (joined_line text each (y ∷ xs)))

data_line : (n : ℕ) → OneLine (data_register n)
data_line n = join (lit (codes "d") refl) (decimal_line n)

address_line : (n : ℕ) → OneLine (address_register n)
address_line n = join (lit (codes "a") refl) (decimal_line n)

indirect_line : (n : ℕ) → OneLine (indirect n)
indirect_line n = join (join (lit (codes "(") refl) (address_line n)) (lit (codes ")") refl)

choose_line : (t : Bool) (xs ys : List ℕ) → OneLine xs → OneLine ys → OneLine (if t then xs else ys)
choose_line true xs ys first second = first
choose_line false xs ys first second = second

scale_line : (s : ℕ) → OneLine (scale_text s)
scale_line s = choose_line (s == 1) _ _ (lit (codes "") refl) (choose_line (s == 2) _ _ (lit (codes "*2") refl) (choose_line (s == 4) _ _ (lit (codes "*4") refl) (lit (codes "*8") refl)))

index_line : (i : Index) → OneLine (index_text i)
index_line i =
    join (join (choose_line i.address _ _ (address_line i.reg) (data_line i.reg)) (choose_line i.long _ _ (lit (codes ".l") refl) (lit (codes ".w") refl)))
    (scale_line i.scale)

line_m68 : (o : Operand68) → OneLine (text_m68 o)
line_m68 (Data n) = data_line n
line_m68 (Pair high low) = join (join (data_line high) (lit (codes ":") refl)) (data_line low)
line_m68 (Address n) = address_line n
line_m68 (Indirect n) = indirect_line n
line_m68 (PostIncrement n) = join (indirect_line n) (lit (codes "+") refl)
line_m68 (PreDecrement n) = join (lit (codes "-") refl) (indirect_line n)
line_m68 (Displaced n d) = join (dollar_line 4 d) (indirect_line n)
line_m68 (Indexed n i) = join (join (join (join (join (dollar_line 2 i.disp) (lit (codes "(") refl)) (address_line n)) (lit (codes ",") refl)) (index_line i)) (lit (codes ")") refl)
line_m68 (ShortAddress a) = join (dollar_line 4 a) (lit (codes ".w") refl)
line_m68 (LongAddress a) = join (dollar_line 8 a) (lit (codes ".l") refl)
line_m68 (PcDisplaced d) = join (dollar_line 4 d) (lit (codes "(pc)") refl)
line_m68 (PcIndexed i) = join (join (join (dollar_line 2 i.disp) (lit (codes "(pc,") refl)) (index_line i)) (lit (codes ")") refl)
line_m68 (Byte v) = join (lit (codes "#") refl) (dollar_line 2 v)
line_m68 (Word v) = join (lit (codes "#") refl) (dollar_line 4 v)
line_m68 (Long v) = join (lit (codes "#") refl) (dollar_line 8 v)
line_m68 (Number n) = join (lit (codes "#") refl) (decimal_line n)
line_m68 ConditionCodes = lit (codes "ccr") refl
line_m68 StatusRegister = lit (codes "sr") refl
line_m68 (Target a) = dollar_line 8 a

operands_line_m68 : (os : List Operand68) → OneLine (operands_text_m68 os)
operands_line_m68 [] = lit [] refl
operands_line_m68 (o ∷ os) = join (lit (codes " ") refl) (joined_line text_m68 line_m68 (o ∷ os))

register_line : (n : ℕ) → OneLine (register_text n)
register_line n = join (lit (codes "r") refl) (decimal_line n)

line_ppc : (o : OperandPpc) → OneLine (text_ppc o)
line_ppc (Register n) = register_line n
line_ppc (NumberPpc n) = decimal_line n
line_ppc (Signed n) = signed_line (signed_of n TwoBytes)
line_ppc (DisplacedPpc offset base) = join (join (join (signed_line (signed_of offset TwoBytes)) (lit (codes "(") refl)) (register_line base)) (lit (codes ")") refl)
line_ppc (TargetPpc address) = join (lit (codes "$") refl) (hex_line 8 address)

operands_line_ppc : (os : List OperandPpc) → OneLine (operands_text_ppc os)
operands_line_ppc [] = lit [] refl
operands_line_ppc (o ∷ os) = join (lit (codes " ") refl) (joined_line text_ppc line_ppc (o ∷ os))

-- Names, which the checker reads one after the other.

abbrev are_lines : List (List ℕ) → Bool
are_lines [] = true
are_lines (n ∷ ns) = if is_one_line n then are_lines ns else false

listed_line : (ns : List (List ℕ)) (n : List ℕ) → are_lines ns ≡ true → list_any (λ m. bytes_eq m n) ns ≡ true → OneLine n
listed_line [] n all h = cc
listed_line (m ∷ ns) n all h =
    let parts : (is_one_line m ≡ true) × (are_lines ns ≡ true) = both (is_one_line m) (are_lines ns) all in
    let rest : list_any (λ k. bytes_eq k n) ns ≡ true → OneLine n = listed_line ns n parts.1 in
    elim (or_cases (bytes_eq m n) (list_any (λ k. bytes_eq k n) ns) h) [ inl here ↦ subst OneLine ((bytes_eq-Decides m n).0 here) (lit m parts.0) | inr there ↦ rest there ]

names_are_m68 : are_lines names_m68 ≡ true
unfolding names_m68 stems_m68 wide_m68 plain_m68 tested_m68 conditions_m68
names_are_m68 = refl

names_are_ppc : are_lines names_ppc ≡ true
unfolding names_ppc shapes
names_are_ppc = refl

-- Texts.

pub text_line_m68 : NamesAreListed → (d : Decoded68) (w at : ℕ) (ws : List ℕ) → w < 2 ^ 16 → decoded (w ∷ ws) ≡ d → OneLine (text_of_m68 d (w ∷ ws) at)
text_line_m68 names (Op i used) w at ws below is = join (listed_line names_m68 (name_m68 i used) names_are_m68 (names w ws i used below is)) (operands_line_m68 (operands_m68 i (w ∷ ws) at))
text_line_m68 names (LineA v) w at ws below is = join (lit (codes "dc.w ") refl) (dollar_line 4 w)
text_line_m68 names LineF w at ws below is = join (lit (codes "dc.w ") refl) (dollar_line 4 w)
text_line_m68 names Privileged w at ws below is = join (lit (codes "dc.w ") refl) (dollar_line 4 w)
text_line_m68 names Illegal w at ws below is = join (lit (codes "dc.w ") refl) (dollar_line 4 w)
text_line_m68 names Short w at ws below is = join (lit (codes "dc.w ") refl) (dollar_line 4 w)

text_line_ppc : (o : Option InstrPpc) (word at : ℕ) → OneLine (text_of_ppc o word at)
text_line_ppc (Some i) word at = join (listed_line names_ppc (name_ppc i) names_are_ppc (names_listed i)) (operands_line_ppc (operands_ppc i at))
text_line_ppc None word at = join (lit (codes ".long $") refl) (hex_line 8 word)

pub word_line : (word at : ℕ) → OneLine (word_text word at)
word_line word at = text_line_ppc (decoded_ppc word) word at

-- The address in front of a line.

pub addressed_line : (at : ℕ) (text : List ℕ) → OneLine text → OneLine (hexadecimal 8 at ++ codes ": " ++ text)
addressed_line at text line = join (join (hex_line 8 at) (lit (codes ": ") refl)) line

-- A line before others is the first one.
fed : (b : ℕ) (bs rest : List ℕ) (t : Bool) → (if t then false else is_one_line bs) ≡ true → (is_one_line bs ≡ true → lines_of (bs ++ 10 ∷ rest) ≡ bs ∷ lines_of rest)
    → (if t then [] ∷ lines_of (bs ++ 10 ∷ rest) else with_byte b (lines_of (bs ++ 10 ∷ rest))) ≡ (b ∷ bs) ∷ lines_of rest
fed b bs rest true h f = cc
fed b bs rest false h f = ap (with_byte b) (f h)

split : (line rest : List ℕ) → is_one_line line ≡ true → lines_of (line ++ 10 ∷ rest) ≡ line ∷ lines_of rest
split [] rest h = refl
split (b ∷ bs) rest h = fed b bs rest (b == 10) h (λ g. split bs rest g)

pub first_of_lines : (line rest : List ℕ) → OneLine line → lines_of (line ++ 10 ∷ rest) ≡ line ∷ lines_of rest
first_of_lines line rest one = split line rest one.holds
