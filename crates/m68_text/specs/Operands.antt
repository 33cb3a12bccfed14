-- The kinds of operands, each with its text, and what several instructions have as operands, the source
-- first (M68000 Family Programmer's Reference Manual, sections 2 and 4).
use Rattle.std.specs.Prelude.{ℕ, List, [], ◌∷◌, ◌++◌, ◌==◌, codes, decimal, map, slice_index, Bool, if◌then◌else◌}
use Rattle.std.specs.List.{join_with_byte}
use Rattle.mix_bits.specs.Text.{hexadecimal}
use Rattle.mix_bits.specs.declared.size.Size.{Size}
use Rattle.mix_bits.specs.declared.size.Size.TheVariants.{Four}
use Rattle.m68_isa.specs.declared.ea.Ea.{Ea}
use Rattle.m68_isa.specs.declared.ea.Ea.TheVariants.{Dn, An, Ind, Post, Pre, Disp, Indexed as EaIndexed, AbsWord, AbsLong, PcDisp, PcIndexed as EaPcIndexed, Imm}
use Rattle.m68_isa.specs.declared.ea.Index.{Index}
use Rattle.m68_isa.specs.declared.instructions.ShiftCount.{ShiftCount}
use Rattle.m68_isa.specs.declared.instructions.ShiftCount.TheVariants.{Number as CountNumber, Register as CountRegister}
use Rattle.m68_isa.specs.declared.instructions.Exchange.{Exchange}
use Rattle.m68_isa.specs.declared.instructions.Exchange.TheVariants.{Data as ExchangeData, Address as ExchangeAddress, DataAddress}
use Rattle.m68_isa.specs.Operands.{long_at}
use Rattle.m68_text.specs.declared.operand.Operand.{Operand}
use Rattle.m68_text.specs.declared.operand.Operand.TheVariants.{Data, Pair, Address, Indirect, PostIncrement, PreDecrement, Displaced, Indexed, ShortAddress, LongAddress, PcDisplaced, PcIndexed, Byte, Word, Long, Number, ConditionCodes, StatusRegister, Target}

abbrev pub data_register : ℕ → List ℕ
data_register n = codes "d" ++ decimal n

abbrev pub address_register : ℕ → List ℕ
address_register n = codes "a" ++ decimal n

abbrev pub indirect : ℕ → List ℕ
indirect n = codes "(" ++ address_register n ++ codes ")"

-- the lowest digits of a number, in full width
abbrev pub hex : ℕ → ℕ → List ℕ
hex digits v = codes "$" ++ hexadecimal digits v

-- what the index is multiplied by, if by more than 1
abbrev pub scale_text : ℕ → List ℕ
scale_text scale = if scale == 1 then codes "" else if scale == 2 then codes "*2" else if scale == 4 then codes "*4" else codes "*8"

-- the index register, how much of it counts, and its scale
abbrev pub index_text : Index → List ℕ
index_text i = (if i.address then address_register i.reg else data_register i.reg) ++ (if i.long then codes ".l" else codes ".w") ++ scale_text i.scale

abbrev pub operand_text : Operand → List ℕ
operand_text (Data n) = data_register n
operand_text (Pair high low) = data_register high ++ codes ":" ++ data_register low
operand_text (Address n) = address_register n
operand_text (Indirect n) = indirect n
operand_text (PostIncrement n) = indirect n ++ codes "+"
operand_text (PreDecrement n) = codes "-" ++ indirect n
operand_text (Displaced n d) = hex 4 d ++ indirect n
operand_text (Indexed n i) = hex 2 i.disp ++ codes "(" ++ address_register n ++ codes "," ++ index_text i ++ codes ")"
operand_text (ShortAddress a) = hex 4 a ++ codes ".w"
operand_text (LongAddress a) = hex 8 a ++ codes ".l"
operand_text (PcDisplaced d) = hex 4 d ++ codes "(pc)"
operand_text (PcIndexed i) = hex 2 i.disp ++ codes "(pc," ++ index_text i ++ codes ")"
operand_text (Byte v) = codes "#" ++ hex 2 v
operand_text (Word v) = codes "#" ++ hex 4 v
operand_text (Long v) = codes "#" ++ hex 8 v
operand_text (Number n) = codes "#" ++ decimal n
operand_text ConditionCodes = codes "ccr"
operand_text StatusRegister = codes "sr"
operand_text (Target a) = hex 8 a

-- with commas between them
abbrev pub joined : List Operand → List ℕ
joined os = join_with_byte 44 (map operand_text os)

-- after a space, where there are any
abbrev pub operands_text : List Operand → List ℕ
operands_text [] = []
operands_text (o ∷ os) = codes " " ++ joined (o ∷ os)

-- the extension words of an immediate, which begin with this one, whole
abbrev pub immediate : Size → List ℕ → ℕ → Operand
immediate Four ws word = Long (long_at ws word)
immediate _ ws word = Word (slice_index ws word)

-- an effective address, or in the place of one the immediate of this size that begins with this word
abbrev pub place : Size → List ℕ → ℕ → Ea → Operand
place s ws word (Dn n) = Data n
place s ws word (An n) = Address n
place s ws word (Ind n) = Indirect n
place s ws word (Post n) = PostIncrement n
place s ws word (Pre n) = PreDecrement n
place s ws word (Disp n d) = Displaced n d
place s ws word (EaIndexed n i) = Indexed n i
place s ws word (AbsWord a) = ShortAddress a
place s ws word (AbsLong a) = LongAddress a
place s ws word (PcDisp from d) = PcDisplaced d
place s ws word (EaPcIndexed from i) = PcIndexed i
place s ws word (Imm v) = immediate s ws word

-- a register and an operand, which is the destination where the instruction says so
abbrev pub directed : Bool → ℕ → Operand → List Operand
directed to_memory register operand = if to_memory then Data register ∷ operand ∷ [] else operand ∷ Data register ∷ []

-- two data registers, or the bytes before two addresses
abbrev pub paired : Bool → ℕ → ℕ → List Operand
paired memory from to = if memory then PreDecrement from ∷ PreDecrement to ∷ [] else Data from ∷ Data to ∷ []

abbrev pub exchanged : Exchange → ℕ → ℕ → List Operand
exchanged ExchangeData upper lower = Data upper ∷ Data lower ∷ []
exchanged ExchangeAddress upper lower = Address upper ∷ Address lower ∷ []
exchanged DataAddress upper lower = Data upper ∷ Address lower ∷ []

-- the source of a long multiplication or division, then the register of the high 32 bits or of the remainder before
-- that of the low ones: the two hold one number of 64 bits, or one each. An immediate stands behind the word of the
-- registers
abbrev pub with_registers : Bool → ℕ → ℕ → List ℕ → Ea → List Operand
with_registers wide high low ws by =
    let source = place Four ws 2 by in
    if wide then source ∷ Pair high low ∷ [] else source ∷ Data high ∷ Data low ∷ []

abbrev pub counted : ShiftCount → Operand
counted (CountNumber n) = Number n
counted (CountRegister n) = Data n
