-- The words of a form and its operands (M68000 Family Programmer's Reference Manual, sections 2.2 and 8).
use Rattle.std.specs.Prelude.{ℕ, ◌+◌, ◌-◌, ◌*◌, ◌/◌, ◌%◌, ◌^◌, ◌==◌, ◌&&◌, Bool, true, false, List, [], ◌∷◌, ◌++◌, if◌then◌else◌}
use Rattle.m68_isa.specs.declared.ea.Index.{Index}
use Rattle.m68_text.specs.declared.operand.Operand.{Operand}
use Rattle.m68_text.specs.declared.operand.Operand.TheVariants.{Data, Pair, Address, Indirect, PostIncrement, PreDecrement, Displaced, Indexed, ShortAddress, LongAddress, PcDisplaced, PcIndexed, Byte, Word, Long, Number, ConditionCodes, StatusRegister, Target}
use Rattle.asm_m68.specs.declared.form.Choice.{Choice}
use Rattle.asm_m68.specs.declared.form.Choice.TheVariants.{DataAddress, FirstData, FirstWord, SecondCodes, SecondData}
use Rattle.asm_m68.specs.declared.form.Form.{Form}
use Rattle.asm_m68.specs.declared.form.Form.TheVariants.{Always, Chosen, Data as DataWord, Far, Near, Registers}
use Rattle.asm_m68.specs.declared.form.Place.{Place}
use Rattle.asm_m68.specs.declared.form.Place.TheVariants.{Both, First, Nowhere, Second, UpperFirst, UpperSecond}
use Rattle.asm_m68.specs.declared.operands.Parsed.{Parsed}

-- the six bits of an operand, its mode before its register; of a number the number itself
abbrev pub bits_of : Operand → ℕ
bits_of (Data n) = n
bits_of (Pair high low) = 0
bits_of (Address n) = 8 + n
bits_of (Indirect n) = 16 + n
bits_of (PostIncrement n) = 24 + n
bits_of (PreDecrement n) = 32 + n
bits_of (Displaced n d) = 40 + n
bits_of (Indexed n i) = 48 + n
bits_of (ShortAddress a) = 56
bits_of (LongAddress a) = 57
bits_of (PcDisplaced d) = 58
bits_of (PcIndexed i) = 59
bits_of (Byte v) = v % 256
bits_of (Word v) = 60
bits_of (Long v) = 60
bits_of (Number n) = n
bits_of ConditionCodes = 60
bits_of StatusRegister = 0
bits_of (Target a) = 0

abbrev pub placed : Place → ℕ → ℕ → ℕ
placed Nowhere o p = 0
placed First o p = o
placed Second o p = p
placed UpperFirst o p = o % 8 * 512 + p
placed UpperSecond o p = o + p % 8 * 512
placed Both o p = o + p % 8 * 512 + p / 8 * 64

abbrev pub is_data : Operand → Bool
is_data (Data n) = true
is_data _ = false

abbrev pub is_address : Operand → Bool
is_address (Address n) = true
is_address _ = false

abbrev pub is_word : Operand → Bool
is_word (Word v) = true
is_word _ = false

abbrev pub is_codes : Operand → Bool
is_codes ConditionCodes = true
is_codes _ = false

abbrev pub holds : Choice → Operand → Operand → Bool
holds FirstData o p = is_data o
holds SecondData o p = is_data p
holds FirstWord o p = is_word o
holds SecondCodes o p = is_codes p
holds DataAddress o p = is_data o && is_address p

-- the first word but for a displacement in it
abbrev pub first_word : Form → Operand → Operand → ℕ
first_word DataWord o p = 0
first_word (Always place base) o p = base + placed place (bits_of o) (bits_of p)
first_word (Near base) o p = base
first_word (Far base) o p = base
first_word (Registers base registers) o p = base + bits_of o
first_word (Chosen choice place base other word) o p = if holds choice o p then base + placed place (bits_of o) (bits_of p) else word + placed other (bits_of o) (bits_of p)

-- how far a target is from the address behind the first word, as 32 bits
abbrev pub way : ℕ → ℕ → ℕ
way at target = (target + 2 ^ 33 - (at + 2)) % 2 ^ 32

abbrev pub way_of : ℕ → Operand → ℕ
way_of at (Target a) = way at a
way_of at _ = 0

-- the word that a form without an instruction has
abbrev pub value_of : Operand → ℕ
value_of (Word v) = v
value_of _ = 0

-- bits 10 and 9 of an index word
abbrev pub scale_bits : ℕ → ℕ
scale_bits scale = if scale == 1 then 0 else if scale == 2 then 512 else if scale == 4 then 1024 else 1536

-- bit 15 address register, 14 to 12 its number, 11 long, 10 and 9 the scale, low byte displacement
abbrev pub index_word : Index → ℕ
index_word i = (if i.address then 32768 else 0) + i.reg * 4096 + (if i.long then 2048 else 0) + scale_bits i.scale + i.disp % 256

-- a number of 32 bits as two words
abbrev pub long_words : ℕ → List ℕ
long_words v = v / 65536 % 65536 ∷ v % 65536 ∷ []

-- the extension words of an operand
abbrev pub content : ℕ → Operand → List ℕ
content at (Displaced n d) = d % 65536 ∷ []
content at (Indexed n i) = index_word i % 65536 ∷ []
content at (ShortAddress a) = a % 65536 ∷ []
content at (LongAddress a) = long_words a
content at (PcDisplaced d) = d % 65536 ∷ []
content at (PcIndexed i) = index_word i % 65536 ∷ []
content at (Word v) = v % 65536 ∷ []
content at (Long v) = long_words v
content at (Target a) = way at a % 65536 ∷ []
content at (Data n) = []
content at (Pair high low) = []
content at (Address n) = []
content at (Indirect n) = []
content at (PostIncrement n) = []
content at (PreDecrement n) = []
content at (Byte v) = []
content at (Number n) = []
content at ConditionCodes = []
content at StatusRegister = []

-- those of two operands in their order, but a mask of registers comes first
abbrev pub contents : ℕ → Operand → Operand → List ℕ
contents at o p = if is_word p then content at p ++ content at o else content at o ++ content at p

abbrev pub number_of : Operand → ℕ
number_of (Data n) = n
number_of _ = 0

-- bits 14 to 12 the low register, bit 10 where the two hold one number, bits 2 to 0 the high register
abbrev pub registers_of : Operand → Operand → ℕ
registers_of (Pair high low) q = 1024 + low * 4096 + high
registers_of o q = number_of q * 4096 + number_of o

-- what follows on the first word
pub data Ending : Type 0 where
  Alone : Ending
  Distance : Ending
  Paired : ℕ → Ending
  Extended : Ending

abbrev pub ending : Form → Ending
ending DataWord = Alone
ending (Always place base) = Extended
ending (Near base) = Alone
ending (Far base) = Distance
ending (Registers base registers) = Paired registers
ending (Chosen choice place base other word) = Extended

abbrev pub following : Ending → ℕ → Parsed → List ℕ
following Alone at p = []
following Distance at p = long_words (way_of at p.first)
following (Paired registers) at p = (registers + registers_of p.second p.third) % 65536 ∷ content at p.first
following Extended at p = contents at p.first p.second

abbrev pub leading : Form → ℕ → Parsed → ℕ
leading DataWord at p = value_of p.first
leading (Near base) at p = base + way_of at p.first % 256
leading form at p = first_word form p.first p.second

abbrev pub spelled : Form → ℕ → Parsed → List ℕ
spelled form at p = leading form at p % 65536 ∷ following (ending form) at p
