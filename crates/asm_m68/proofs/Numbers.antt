-- Whose numbers the first two operands of each operation have: that of the register in bits 11 to 9 of the first word or
-- in bits 2 to 0, or none.
use Rattle.std.proofs.Common.{◌≡◌, ℕ, zero, suc, ◌+◌, ◌%◌, ◌<◌, ◌==◌, nat_lt, List, [], ◌∷◌, map, slice_index, Bool, true, false, if◌then◌else◌, arith, refl}
use Rattle.mix_bits.specs.declared.size.Size.{Size}
use Rattle.mix_bits.specs.declared.size.Size.TheVariants.{Zero, One, Two, Four}
use Rattle.m68_isa.specs.declared.instructions.Exchange.{Exchange}
use Rattle.m68_isa.specs.declared.instructions.Exchange.TheVariants.{Data as ExchangeData, Address as ExchangeAddress, DataAddress}
use Rattle.m68_isa.specs.declared.instructions.Instr68.{Instr68}
use Rattle.m68_isa.specs.declared.instructions.ShiftCount.TheVariants.{Number as CountNumber, Register as CountRegister}
use Rattle.m68_isa.specs.declared.found.Found.{Found}
use Rattle.m68_isa.specs.declared.found.Found.TheVariants.{Made, Privileged as RowPrivileged, Illegal as RowIllegal}
use Rattle.m68_isa.specs.declared.op.Op68.{Op68}
use Rattle.m68_isa.specs.declared.op.Op68.TheVariants.{Ori, Andi, Subi, Addi, Eori, Cmpi, LogicToCcr, BitByNumber, BitByRegister, Movep, MoveByte, MoveWord, MoveLong, MoveaWord, MoveaLong, Negx, Clr, Neg, Not, MoveFromSr, MoveToCcr, Nbcd, Swap, Pea, Ext, ExtByte, MovemToMemory, MovemFromMemory, MulLong, DivLong, Tst, Tas, Trap, Link, LinkLong, Unlk, Nop, Rtd, Rts, Trapv, Rtr, Jsr, Jmp, Chk, Lea, Addq, Subq, Scc, Dbcc, BraByte, BraWord, BraLong, BsrByte, BsrWord, BsrLong, BccByte, BccWord, BccLong, Moveq, OrToRegister, OrToMemory, Divu, Divs, Sbcd, SubToRegister, SubToMemory, Suba, Subx, Cmp, Cmpa, Eor, Cmpm, AndToRegister, AndToMemory, Mulu, Muls, Abcd, Exg, AddToRegister, AddToMemory, Adda, Addx, Shift, ShiftMemory, Illegal, Privileged, LineA, LineF}
use Rattle.m68_isa.specs.Arithmetic.{exchange}
use Rattle.m68_isa.specs.First.{First, long_or_word, one_to_eight, size_of}
use Rattle.m68_isa.specs.Made.{made}
use Rattle.m68_isa.specs.Moves.{move_mode}
use Rattle.m68_isa.specs.declared.ea.Ea.{Ea}
use Rattle.m68_isa.specs.declared.operand.Operand.{Operand as Read}
use Rattle.m68_isa.specs.Operands.{immediate_words, operand_at, special_at}
use Rattle.m68_isa.specs.Products.{is_wide}
use Rattle.m68_text.specs.declared.operand.Operand.{Operand}
use Rattle.m68_text.specs.declared.operand.Operand.TheVariants.{Data, Address, Indirect, PostIncrement, PreDecrement, Displaced, Indexed}
use Rattle.m68_text.specs.Instructions.{operands}
use Rattle.m68_text.specs.Operands.{counted, directed, exchanged, immediate, paired, place, with_registers}
use Rattle.asm_m68.specs.declared.operands.Parsed.{Parsed}
use Rattle.asm_m68.specs.Reading.{nothing}
use Rattle.asm_m68.proofs.Texts.{cut}

-- a list of operands as they are read
abbrev pub padded : List Operand → Parsed
padded [] = record { first = nothing; second = nothing; third = nothing }
padded (o ∷ []) = record { first = o; second = nothing; third = nothing }
padded (o ∷ p ∷ []) = record { first = o; second = p; third = nothing }
padded (o ∷ p ∷ q ∷ os) = record { first = o; second = p; third = q }

abbrev pub told : Instr68 → List ℕ → ℕ → Parsed
told i ws at = padded (map cut (operands i ws at))

-- the register's number in an operand of the first word's low bits
abbrev pub number : Operand → ℕ
number (Data n) = n
number (Address n) = n
number (Indirect n) = n
number (PostIncrement n) = n
number (PreDecrement n) = n
number (Displaced n d) = n
number (Indexed n i) = n
number _ = 0

-- whose number it is
pub data Source : Type 0 where
  Upper : Source
  Lower : Source
  Neither : Source
  Unknown : Source

abbrev pub IsFrom : Source → First → ℕ → Type 0
IsFrom Upper f n = n ≡ f.upper
IsFrom Lower f n = n ≡ f.lower
IsFrom Neither f n = n ≡ 0
IsFrom Unknown f n = Unit {0}

-- an operand of a mode, or of the one that a move goes to
abbrev at_place : First → Source
at_place f = if nat_lt f.mode 7 then Lower else Neither

abbrev at_moved : First → Source
at_moved f = if nat_lt (move_mode f) 7 then Upper else Neither

abbrev pub sources : Op68 → First → Source × Source
sources Ori f = (Neither, at_place f)
sources Andi f = (Neither, at_place f)
sources Subi f = (Neither, at_place f)
sources Addi f = (Neither, at_place f)
sources Eori f = (Neither, at_place f)
sources Cmpi f = (Neither, at_place f)
sources BitByNumber f = (Neither, at_place f)
sources BitByRegister f = (Upper, at_place f)
sources Movep f = if nat_lt 1 f.size then (Upper, Lower) else (Lower, Upper)
sources MoveByte f = (at_place f, at_moved f)
sources MoveWord f = (at_place f, at_moved f)
sources MoveLong f = (at_place f, at_moved f)
sources MoveaWord f = (at_place f, Upper)
sources MoveaLong f = (at_place f, Upper)
sources Negx f = (at_place f, Neither)
sources Clr f = (at_place f, Neither)
sources Neg f = (at_place f, Neither)
sources Not f = (at_place f, Neither)
sources MoveFromSr f = (Neither, at_place f)
sources MoveToCcr f = (at_place f, Neither)
sources Nbcd f = (at_place f, Neither)
sources Swap f = (Lower, Neither)
sources Pea f = (at_place f, Neither)
sources Ext f = (Lower, Neither)
sources ExtByte f = (Lower, Neither)
sources MovemToMemory f = (Neither, at_place f)
sources MovemFromMemory f = (at_place f, Neither)
sources MulLong f = (at_place f, Unknown)
sources DivLong f = (at_place f, Unknown)
sources Tst f = (at_place f, Neither)
sources Tas f = (at_place f, Neither)
sources Link f = (Lower, Neither)
sources LinkLong f = (Lower, Neither)
sources Unlk f = (Lower, Neither)
sources Jsr f = (at_place f, Neither)
sources Jmp f = (at_place f, Neither)
sources Chk f = (at_place f, Upper)
sources Lea f = (at_place f, Upper)
sources Addq f = (Neither, at_place f)
sources Subq f = (Neither, at_place f)
sources Scc f = (at_place f, Neither)
sources Dbcc f = (Lower, Neither)
sources Moveq f = (Neither, Upper)
sources OrToRegister f = (at_place f, Upper)
sources OrToMemory f = (Upper, at_place f)
sources Divu f = (at_place f, Upper)
sources Divs f = (at_place f, Upper)
sources Sbcd f = (Lower, Upper)
sources SubToRegister f = (at_place f, Upper)
sources SubToMemory f = (Upper, at_place f)
sources Suba f = (at_place f, Upper)
sources Subx f = (Lower, Upper)
sources Cmp f = (at_place f, Upper)
sources Cmpa f = (at_place f, Upper)
sources Eor f = (Upper, at_place f)
sources Cmpm f = (Lower, Upper)
sources AndToRegister f = (at_place f, Upper)
sources AndToMemory f = (Upper, at_place f)
sources Mulu f = (at_place f, Upper)
sources Muls f = (at_place f, Upper)
sources Abcd f = (Lower, Upper)
sources Exg f = (Upper, Lower)
sources AddToRegister f = (at_place f, Upper)
sources AddToMemory f = (Upper, at_place f)
sources Adda f = (at_place f, Upper)
sources Addx f = (Lower, Upper)
sources Shift f = (if nat_lt f.mode 4 then Neither else Upper, Lower)
sources ShiftMemory f = (at_place f, Neither)
sources _ f = (Neither, Neither)

-- an immediate has none
immediate_number : (s : Size) (ws : List ℕ) (k : ℕ) → number (cut (immediate s ws k)) ≡ 0
immediate_number Zero ws k = refl
immediate_number One ws k = refl
immediate_number Two ws k = refl
immediate_number Four ws k = refl

abbrev number_in : Size → List ℕ → ℕ → Read → ℕ
number_in s ws word r = number (cut (place s ws word r.ea))

either_none : (s : Size) (ws : List ℕ) (word : ℕ) (b : Bool) (x y : Read) → number_in s ws word x ≡ 0 → number_in s ws word y ≡ 0 → number_in s ws word (if b then x else y) ≡ 0
either_none s ws word true x y first second = first
either_none s ws word false x y first second = second

special_number : (s t : Size) (ws : List ℕ) (word k lower : ℕ) → number_in s ws word (special_at ws k t lower) ≡ 0
special_number s t ws word k lower =
    either_none s ws word (lower == 0) _ _ refl
    (either_none s ws word (lower == 1) _ _ refl
    (either_none s ws word (lower == 2) _ _ refl
    (either_none s ws word (lower == 3) _ _ refl (immediate_number s ws word))))

-- the number in a place is its register's below mode 7, and there is none at mode 7
from : (f : First) (source : Source) (n : ℕ) → IsFrom source f n → (s t : Size) (ws : List ℕ) (word k mode : ℕ) → mode < 8 → IsFrom (if nat_lt mode 7 then source else Neither) f (number_in s ws word (operand_at ws k t mode n))
from f source n is s t ws word k zero below = is
from f source n is s t ws word k (suc zero) below = is
from f source n is s t ws word k (suc (suc zero)) below = is
from f source n is s t ws word k (suc (suc (suc zero))) below = is
from f source n is s t ws word k (suc (suc (suc (suc zero)))) below = is
from f source n is s t ws word k (suc (suc (suc (suc (suc zero))))) below = is
from f source n is s t ws word k (suc (suc (suc (suc (suc (suc zero)))))) below = is
from f source n is s t ws word k (suc (suc (suc (suc (suc (suc (suc zero))))))) below = special_number s t ws word k n
from f source n is s t ws word k (suc (suc (suc (suc (suc (suc (suc (suc mode)))))))) below = absurd (omega (arith, below))

-- whose numbers the operands of what was made have
abbrev pub AreFrom : Source × Source → Found → First → List ℕ → ℕ → Type 0
AreFrom s (Made i used good) f ws at = IsFrom s.0 f (number (told i ws at).first) × IsFrom s.1 f (number (told i ws at).second)
AreFrom s RowPrivileged f ws at = Unit {0}
AreFrom s RowIllegal f ws at = Unit {0}

abbrev Both : Source × Source → First → List Operand → Type 0
Both s f os = IsFrom s.0 f (number (padded (map cut os)).first) × IsFrom s.1 f (number (padded (map cut os)).second)

movep_numbers : (b : Bool) (f : First) (disp : ℕ) → Both (if b then (Upper, Lower) else (Lower, Upper)) f (directed b f.upper (Displaced f.lower disp))
movep_numbers true f disp = (refl, refl)
movep_numbers false f disp = (refl, refl)

paired_numbers : (b : Bool) (f : First) → Both (Lower, Upper) f (paired b f.lower f.upper)
paired_numbers true f = (refl, refl)
paired_numbers false f = (refl, refl)

exchanged_numbers : (kind : Exchange) (f : First) → Both (Upper, Lower) f (exchanged kind f.upper f.lower)
exchanged_numbers ExchangeData f = (refl, refl)
exchanged_numbers ExchangeAddress f = (refl, refl)
exchanged_numbers DataAddress f = (refl, refl)

counted_numbers : (b : Bool) (f : First) → Both (if b then Neither else Upper, Lower) f (counted (if b then CountNumber (one_to_eight f.upper) else CountRegister f.upper) ∷ Data f.lower ∷ [])
counted_numbers true f = (refl, refl)
counted_numbers false f = (refl, refl)

long_number : (wide : Bool) (f : First) (high low : ℕ) (ws : List ℕ) (by : Ea) → IsFrom (at_place f) f (number (cut (place Four ws 2 by))) → IsFrom (at_place f) f (number (padded (map cut (with_registers wide high low ws by))).first)
long_number true f high low ws by is = is
long_number false f high low ws by is = is

pub are_from : (at : ℕ) (ws : List ℕ) (f : First) → f.mode < 8 → move_mode f < 8 → (op : Op68) → AreFrom (sources op f) (made op f ws) f ws at
are_from at ws f mode moved Ori = (immediate_number (size_of f.size) ws 1, from f Lower f.lower refl (size_of f.size) (size_of f.size) ws 1 (1 + immediate_words (size_of f.size)) f.mode mode)
are_from at ws f mode moved Andi = (immediate_number (size_of f.size) ws 1, from f Lower f.lower refl (size_of f.size) (size_of f.size) ws 1 (1 + immediate_words (size_of f.size)) f.mode mode)
are_from at ws f mode moved Subi = (immediate_number (size_of f.size) ws 1, from f Lower f.lower refl (size_of f.size) (size_of f.size) ws 1 (1 + immediate_words (size_of f.size)) f.mode mode)
are_from at ws f mode moved Addi = (immediate_number (size_of f.size) ws 1, from f Lower f.lower refl (size_of f.size) (size_of f.size) ws 1 (1 + immediate_words (size_of f.size)) f.mode mode)
are_from at ws f mode moved Eori = (immediate_number (size_of f.size) ws 1, from f Lower f.lower refl (size_of f.size) (size_of f.size) ws 1 (1 + immediate_words (size_of f.size)) f.mode mode)
are_from at ws f mode moved Cmpi = (immediate_number (size_of f.size) ws 1, from f Lower f.lower refl (size_of f.size) (size_of f.size) ws 1 (1 + immediate_words (size_of f.size)) f.mode mode)
are_from at ws f mode moved LogicToCcr = (refl, refl)
are_from at ws f mode moved BitByNumber = (refl, from f Lower f.lower refl (One) (One) ws 1 (2) f.mode mode)
are_from at ws f mode moved BitByRegister = (refl, from f Lower f.lower refl (One) (One) ws 1 (1) f.mode mode)
are_from at ws f mode moved Movep = movep_numbers (nat_lt 1 f.size) f _
are_from at ws f mode moved MoveByte = (from f Lower f.lower refl (One) (One) ws 1 (1) f.mode mode, from f Upper f.upper refl One One ws 1 (operand_at ws 1 One f.mode f.lower).next (move_mode f) moved)
are_from at ws f mode moved MoveWord = (from f Lower f.lower refl (Two) (Two) ws 1 (1) f.mode mode, from f Upper f.upper refl Two Two ws 1 (operand_at ws 1 Two f.mode f.lower).next (move_mode f) moved)
are_from at ws f mode moved MoveLong = (from f Lower f.lower refl (Four) (Four) ws 1 (1) f.mode mode, from f Upper f.upper refl Four Four ws 1 (operand_at ws 1 Four f.mode f.lower).next (move_mode f) moved)
are_from at ws f mode moved MoveaWord = (from f Lower f.lower refl (Two) (Two) ws 1 (1) f.mode mode, refl)
are_from at ws f mode moved MoveaLong = (from f Lower f.lower refl (Four) (Four) ws 1 (1) f.mode mode, refl)
are_from at ws f mode moved Negx = (from f Lower f.lower refl (size_of f.size) (size_of f.size) ws 1 (1) f.mode mode, refl)
are_from at ws f mode moved Clr = (from f Lower f.lower refl (size_of f.size) (size_of f.size) ws 1 (1) f.mode mode, refl)
are_from at ws f mode moved Neg = (from f Lower f.lower refl (size_of f.size) (size_of f.size) ws 1 (1) f.mode mode, refl)
are_from at ws f mode moved Not = (from f Lower f.lower refl (size_of f.size) (size_of f.size) ws 1 (1) f.mode mode, refl)
are_from at ws f mode moved MoveFromSr = (refl, from f Lower f.lower refl (Two) (Two) ws 1 (1) f.mode mode)
are_from at ws f mode moved MoveToCcr = (from f Lower f.lower refl (Two) (Two) ws 1 (1) f.mode mode, refl)
are_from at ws f mode moved Nbcd = (from f Lower f.lower refl (One) (One) ws 1 (1) f.mode mode, refl)
are_from at ws f mode moved Swap = (refl, refl)
are_from at ws f mode moved Pea = (from f Lower f.lower refl (Four) (Four) ws 1 (1) f.mode mode, refl)
are_from at ws f mode moved Ext = (refl, refl)
are_from at ws f mode moved ExtByte = (refl, refl)
are_from at ws f mode moved MovemToMemory = (refl, from f Lower f.lower refl (long_or_word (f.size % 2)) (long_or_word (f.size % 2)) ws 1 (2) f.mode mode)
are_from at ws f mode moved MovemFromMemory = (from f Lower f.lower refl (long_or_word (f.size % 2)) (long_or_word (f.size % 2)) ws 1 (2) f.mode mode, refl)
are_from at ws f mode moved MulLong = (long_number (is_wide (slice_index ws 1)) f _ _ ws _ (from f Lower f.lower refl Four Four ws 2 2 f.mode mode), tt)
are_from at ws f mode moved DivLong = (long_number (is_wide (slice_index ws 1)) f _ _ ws _ (from f Lower f.lower refl Four Four ws 2 2 f.mode mode), tt)
are_from at ws f mode moved Tst = (from f Lower f.lower refl (size_of f.size) (size_of f.size) ws 1 (1) f.mode mode, refl)
are_from at ws f mode moved Tas = (from f Lower f.lower refl (One) (One) ws 1 (1) f.mode mode, refl)
are_from at ws f mode moved Trap = (refl, refl)
are_from at ws f mode moved Link = (refl, refl)
are_from at ws f mode moved LinkLong = (refl, refl)
are_from at ws f mode moved Unlk = (refl, refl)
are_from at ws f mode moved Nop = (refl, refl)
are_from at ws f mode moved Rtd = (refl, refl)
are_from at ws f mode moved Rts = (refl, refl)
are_from at ws f mode moved Trapv = (refl, refl)
are_from at ws f mode moved Rtr = (refl, refl)
are_from at ws f mode moved Jsr = (from f Lower f.lower refl (Four) (Four) ws 1 (1) f.mode mode, refl)
are_from at ws f mode moved Jmp = (from f Lower f.lower refl (Four) (Four) ws 1 (1) f.mode mode, refl)
are_from at ws f mode moved Chk = (from f Lower f.lower refl (Two) (Two) ws 1 (1) f.mode mode, refl)
are_from at ws f mode moved Lea = (from f Lower f.lower refl (Four) (Four) ws 1 (1) f.mode mode, refl)
are_from at ws f mode moved Addq = (refl, from f Lower f.lower refl (size_of f.size) (size_of f.size) ws 1 (1) f.mode mode)
are_from at ws f mode moved Subq = (refl, from f Lower f.lower refl (size_of f.size) (size_of f.size) ws 1 (1) f.mode mode)
are_from at ws f mode moved Scc = (from f Lower f.lower refl (One) (One) ws 1 (1) f.mode mode, refl)
are_from at ws f mode moved Dbcc = (refl, refl)
are_from at ws f mode moved BraByte = (refl, refl)
are_from at ws f mode moved BraWord = (refl, refl)
are_from at ws f mode moved BraLong = (refl, refl)
are_from at ws f mode moved BsrByte = (refl, refl)
are_from at ws f mode moved BsrWord = (refl, refl)
are_from at ws f mode moved BsrLong = (refl, refl)
are_from at ws f mode moved BccByte = (refl, refl)
are_from at ws f mode moved BccWord = (refl, refl)
are_from at ws f mode moved BccLong = (refl, refl)
are_from at ws f mode moved Moveq = (refl, refl)
are_from at ws f mode moved OrToRegister = (from f Lower f.lower refl (size_of f.size) (size_of f.size) ws 1 (1) f.mode mode, refl)
are_from at ws f mode moved OrToMemory = (refl, from f Lower f.lower refl (size_of f.size) (size_of f.size) ws 1 (1) f.mode mode)
are_from at ws f mode moved Divu = (from f Lower f.lower refl (Two) (Two) ws 1 (1) f.mode mode, refl)
are_from at ws f mode moved Divs = (from f Lower f.lower refl (Two) (Two) ws 1 (1) f.mode mode, refl)
are_from at ws f mode moved Sbcd = paired_numbers (f.mode == 1) f
are_from at ws f mode moved SubToRegister = (from f Lower f.lower refl (size_of f.size) (size_of f.size) ws 1 (1) f.mode mode, refl)
are_from at ws f mode moved SubToMemory = (refl, from f Lower f.lower refl (size_of f.size) (size_of f.size) ws 1 (1) f.mode mode)
are_from at ws f mode moved Suba = (from f Lower f.lower refl (long_or_word f.bit8) (long_or_word f.bit8) ws 1 (1) f.mode mode, refl)
are_from at ws f mode moved Subx = paired_numbers (f.mode == 1) f
are_from at ws f mode moved Cmp = (from f Lower f.lower refl (size_of f.size) (size_of f.size) ws 1 (1) f.mode mode, refl)
are_from at ws f mode moved Cmpa = (from f Lower f.lower refl (long_or_word f.bit8) (long_or_word f.bit8) ws 1 (1) f.mode mode, refl)
are_from at ws f mode moved Eor = (refl, from f Lower f.lower refl (size_of f.size) (size_of f.size) ws 1 (1) f.mode mode)
are_from at ws f mode moved Cmpm = (refl, refl)
are_from at ws f mode moved AndToRegister = (from f Lower f.lower refl (size_of f.size) (size_of f.size) ws 1 (1) f.mode mode, refl)
are_from at ws f mode moved AndToMemory = (refl, from f Lower f.lower refl (size_of f.size) (size_of f.size) ws 1 (1) f.mode mode)
are_from at ws f mode moved Mulu = (from f Lower f.lower refl (Two) (Two) ws 1 (1) f.mode mode, refl)
are_from at ws f mode moved Muls = (from f Lower f.lower refl (Two) (Two) ws 1 (1) f.mode mode, refl)
are_from at ws f mode moved Abcd = paired_numbers (f.mode == 1) f
are_from at ws f mode moved Exg = exchanged_numbers (exchange f) f
are_from at ws f mode moved AddToRegister = (from f Lower f.lower refl (size_of f.size) (size_of f.size) ws 1 (1) f.mode mode, refl)
are_from at ws f mode moved AddToMemory = (refl, from f Lower f.lower refl (size_of f.size) (size_of f.size) ws 1 (1) f.mode mode)
are_from at ws f mode moved Adda = (from f Lower f.lower refl (long_or_word f.bit8) (long_or_word f.bit8) ws 1 (1) f.mode mode, refl)
are_from at ws f mode moved Addx = paired_numbers (f.mode == 1) f
are_from at ws f mode moved Shift = counted_numbers (nat_lt f.mode 4) f
are_from at ws f mode moved ShiftMemory = (from f Lower f.lower refl (Two) (Two) ws 1 (1) f.mode mode, refl)
are_from at ws f mode moved Illegal = tt
are_from at ws f mode moved Privileged = tt
are_from at ws f mode moved LineA = tt
are_from at ws f mode moved LineF = tt
