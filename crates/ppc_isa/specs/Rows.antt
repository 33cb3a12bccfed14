-- The table of instructions: which words each has, and which of their fields its operands are
-- (PowerPC 601 RISC Microprocessor User's Manual, chapter 10 and appendix A).
use Rattle.std.specs.Prelude.{ℕ, ◌+◌, ◌*◌, ◌/◌, ◌%◌, ◌^◌, List, [], ◌∷◌, ◌++◌, Bool, true, false, not, ◌&&◌, ◌==◌, nat_lt, Option, Some, None, if◌then◌else◌}
use Rattle.std.specs.List.{list_any}
use Rattle.ppc_isa.specs.declared.instruction.CarryUse.TheVariants.{Plain, Carrying, Extended as WithCarry}
use Rattle.ppc_isa.specs.declared.instruction.ExtendedOperand.TheVariants.{Zero as ZeroOperand, MinusOne}
use Rattle.ppc_isa.specs.declared.instruction.ImmediateOp.TheVariants.{Or as ImmediateOr, OrShifted, Xor as ImmediateXor, XorShifted, And as ImmediateAnd, AndShifted}
use Rattle.ppc_isa.specs.declared.instruction.LogicalOp.TheVariants.{And as LogicalAnd, Or as LogicalOr, Xor as LogicalXor, Nand as LogicalNand, Nor as LogicalNor, Equivalent, AndComplement, OrComplement}
use Rattle.ppc_isa.specs.declared.instruction.UnaryOp.TheVariants.{ExtendSignByte, ExtendSignHalf, CountLeadingZeros}
use Rattle.ppc_isa.specs.declared.instruction.ShiftOp.TheVariants.{Left, Right, RightAlgebraic}
use Rattle.ppc_isa.specs.declared.instruction.MaskUse.TheVariants.{Insert, Clear}
use Rattle.ppc_isa.specs.declared.instruction.LoadKind.TheVariants.{Word as LoadWord, Byte as LoadByte, Half as LoadHalf, HalfAlgebraic}
use Rattle.ppc_isa.specs.declared.instruction.StoreKind.TheVariants.{Word as StoreWord, Byte as StoreByte, Half as StoreHalf}
use Rattle.ppc_isa.specs.declared.instruction.ReversedKind.TheVariants.{Word as ReversedWord, Half as ReversedHalf}
use Rattle.ppc_isa.specs.declared.instruction.BranchRegister.TheVariants.{Link as LinkTarget, Count as CountTarget}
use Rattle.ppc_isa.specs.declared.instruction.SpecialRegister.TheVariants.{Xer, Link as LinkSpecial, Count as CountSpecial}
use Rattle.ppc_isa.specs.declared.instruction.InstrPpc.{InstrPpc}
use Rattle.ppc_isa.specs.declared.instruction.InstrPpc.TheVariants.{Add as AddWords, AddExtended, AddImmediate, AddImmediateCarrying, Branch, BranchConditional, BranchConditionalToRegister, CompareImmediate, ConditionLogical, Divide, InstructionSynchronize, Load, LoadIndexed, Logical, LogicalImmediate, MoveConditionField, MoveXerToConditionField, MultiplyLowImmediate, Negate, Shift, ShiftRightAlgebraicImmediate, Store, StoreIndexed, SubtractFrom, SubtractFromExtended, SubtractFromImmediateCarrying, Synchronize, TrapWordImmediate, Unary, CompareOrTrap, Multiple, Reversed, StringImmediate, StringIndexed, MoveCondition, MoveSpecial, Multiply, Rotate}
use Rattle.ppc_isa.specs.declared.instruction.Comparison.TheVariants.{Compare, TrapWord}
use Rattle.ppc_isa.specs.declared.instruction.MultipleAccess.TheVariants.{LoadMultiple, StoreMultiple}
use Rattle.ppc_isa.specs.declared.instruction.ReversedAccess.TheVariants.{LoadReversed, StoreReversed}
use Rattle.ppc_isa.specs.declared.instruction.StringImmediateAccess.TheVariants.{LoadStringImmediate, StoreStringImmediate}
use Rattle.ppc_isa.specs.declared.instruction.StringIndexedAccess.TheVariants.{LoadStringIndexed, StoreStringIndexed}
use Rattle.ppc_isa.specs.declared.instruction.ConditionMove.TheVariants.{MoveFromConditionRegister, MoveToConditionFields}
use Rattle.ppc_isa.specs.declared.instruction.SpecialMove.TheVariants.{MoveFromSpecial, MoveToSpecial}
use Rattle.ppc_isa.specs.declared.instruction.Multiplication.TheVariants.{MultiplyHigh, MultiplyLow}
use Rattle.ppc_isa.specs.declared.instruction.Rotation.TheVariants.{RotateLeft, RotateLeftImmediate}
use Rattle.ppc_isa.specs.declared.fields.Fields.{Fields}
use Rattle.ppc_isa.specs.Fields.{aa, displacement_of, fields_of, oe}
use Rattle.ppc_isa.specs.Operands.{is_base, registers_from, string_registers}

-- what tells a row from the others with its opcode: nothing, where it is the only one; an extended opcode; or that and
-- the number of a special purpose register
pub data Key : Type 0 where
  Whole : Key
  Extended : ℕ → Key
  Special : ℕ → ℕ → Key

-- the bits that a row leaves to the program besides its operands
pub data Marks : Type 0 where
  Unmarked : Marks
  Rc : Marks
  OeRc : Marks
  Lk : Marks
  AaLk : Marks

-- an opcode, a key, marks, the rule that a word has to meet besides, and the instruction that its fields make
pub data Row : Type 0 where
  row : ℕ → Key → Marks → (Fields → Bool) → (Fields → InstrPpc) → Row

abbrev pub has_oe : Marks → Bool
has_oe OeRc = true
has_oe marks = false

-- an extended opcode has ten bits, or nine with OE before them; the halves of a special register's number are swapped
abbrev pub has_key : Key → Marks → Fields → Bool
has_key Whole marks f = true
has_key (Extended n) marks f = (if has_oe marks then f.xo % 512 else f.xo) == n
has_key (Special n number) marks f = (f.xo == n) && ((f.b * 32 + f.a) == number)

-- whether a word is in a row
abbrev pub is_in : Row → Fields → Bool
is_in (row op key marks rule make) f = (f.op == op) && has_key key marks f

-- behind an extended opcode the last bit is 0 where it is neither Rc nor LK
abbrev pub has_marks : Key → Marks → Fields → Bool
has_marks Whole marks f = true
has_marks key Unmarked f = not f.last
has_marks key marks f = true

-- Rules: bits that are 0, and the forms that the manual calls invalid.

abbrev pub any : Fields → Bool
any f = true

-- the number of a field of the condition register in the place of a register
abbrev pub is_field : ℕ → Bool
is_field n = (n % 4) == 0

abbrev pub to_field : Fields → Bool
to_field f = is_field f.d

abbrev pub no_b : Fields → Bool
no_b f = f.b == 0

abbrev pub one_register : Fields → Bool
one_register f = (f.a == 0) && no_b f

abbrev pub one_field : Fields → Bool
one_field f = to_field f && one_register f

abbrev pub two_fields : Fields → Bool
two_fields f = to_field f && is_field f.a && no_b f

abbrev pub bare : Fields → Bool
bare f = (f.d == 0) && one_register f

-- a mask of eight bits between two bits that are 0
abbrev pub mask_move : Fields → Bool
mask_move f = ((f.a / 16) == 0) && ((f.b % 2) == 0)

-- a branch to the count register does not count it down
abbrev pub count_branch : Fields → Bool
count_branch f = no_b f && ((f.d / 4 % 2) == 1)

-- an update has a base, and a load with it does not go to the base
abbrev pub store_update : Fields → Bool
store_update f = is_base f.a

abbrev pub load_update : Fields → Bool
load_update f = is_base f.a && not (f.a == f.d)

-- loads of several registers leave the base alone
abbrev pub multiple_load : Fields → Bool
multiple_load f = nat_lt f.a f.d

abbrev pub string_load : Fields → Bool
string_load f = not (list_any (λ r. r == f.a) (registers_from f.d (string_registers f.b)))

abbrev pub is_allowed : Row → Fields → Bool
is_allowed (row op key marks rule make) f = has_marks key marks f && rule f

abbrev pub instruction_in : Row → Fields → InstrPpc
instruction_in (row op key marks rule make) f = make f

-- The rows by opcode and extended opcode.

-- opcodes 3 to 18
abbrev pub rows_to_18 : List Row
rows_to_18 =
    row 3 Whole Unmarked any (λ f. TrapWordImmediate f.d f.a f.low)
    ∷ row 7 Whole Unmarked any (λ f. MultiplyLowImmediate f.d f.a f.low)
    ∷ row 8 Whole Unmarked any (λ f. SubtractFromImmediateCarrying f.d f.a f.low)
    ∷ row 10 Whole Unmarked to_field (λ f. CompareImmediate false (f.d / 4) f.a f.low)
    ∷ row 11 Whole Unmarked to_field (λ f. CompareImmediate true (f.d / 4) f.a f.low)
    ∷ row 12 Whole Unmarked any (λ f. AddImmediateCarrying false f.d f.a f.low)
    ∷ row 13 Whole Unmarked any (λ f. AddImmediateCarrying true f.d f.a f.low)
    ∷ row 14 Whole Unmarked any (λ f. AddImmediate false f.d f.a f.low)
    ∷ row 15 Whole Unmarked any (λ f. AddImmediate true f.d f.a f.low)
    ∷ row 16 Whole AaLk any (λ f. BranchConditional f.d f.a (displacement_of 16 (f.low / 4 * 4)) (aa f) f.last)
    ∷ row 18 Whole AaLk any (λ f. Branch (displacement_of 26 (f.d * 2 ^ 21 + f.a * 2 ^ 16 + f.low / 4 * 4)) (aa f) f.last)
    ∷ []

-- opcode 19
abbrev pub rows_19 : List Row
rows_19 =
    row 19 (Extended 0) Unmarked two_fields (λ f. MoveConditionField (f.d / 4) (f.a / 4))
    ∷ row 19 (Extended 16) Lk no_b (λ f. BranchConditionalToRegister LinkTarget f.d f.a f.last)
    ∷ row 19 (Extended 33) Unmarked any (λ f. ConditionLogical LogicalNor f.d f.a f.b)
    ∷ row 19 (Extended 129) Unmarked any (λ f. ConditionLogical AndComplement f.d f.a f.b)
    ∷ row 19 (Extended 150) Unmarked bare (λ f. InstructionSynchronize)
    ∷ row 19 (Extended 193) Unmarked any (λ f. ConditionLogical LogicalXor f.d f.a f.b)
    ∷ row 19 (Extended 225) Unmarked any (λ f. ConditionLogical LogicalNand f.d f.a f.b)
    ∷ row 19 (Extended 257) Unmarked any (λ f. ConditionLogical LogicalAnd f.d f.a f.b)
    ∷ row 19 (Extended 289) Unmarked any (λ f. ConditionLogical Equivalent f.d f.a f.b)
    ∷ row 19 (Extended 417) Unmarked any (λ f. ConditionLogical OrComplement f.d f.a f.b)
    ∷ row 19 (Extended 449) Unmarked any (λ f. ConditionLogical LogicalOr f.d f.a f.b)
    ∷ row 19 (Extended 528) Lk count_branch (λ f. BranchConditionalToRegister CountTarget f.d f.a f.last)
    ∷ []

-- opcodes 20 to 29
abbrev pub rows_to_29 : List Row
rows_to_29 =
    row 20 Whole Rc any (λ f. Rotate (RotateLeftImmediate Insert f.a f.d f.b (f.xo / 32) (f.xo % 32) f.last))
    ∷ row 21 Whole Rc any (λ f. Rotate (RotateLeftImmediate Clear f.a f.d f.b (f.xo / 32) (f.xo % 32) f.last))
    ∷ row 23 Whole Rc any (λ f. Rotate (RotateLeft f.a f.d f.b (f.xo / 32) (f.xo % 32) f.last))
    ∷ row 24 Whole Unmarked any (λ f. LogicalImmediate ImmediateOr f.a f.d f.low)
    ∷ row 25 Whole Unmarked any (λ f. LogicalImmediate OrShifted f.a f.d f.low)
    ∷ row 26 Whole Unmarked any (λ f. LogicalImmediate ImmediateXor f.a f.d f.low)
    ∷ row 27 Whole Unmarked any (λ f. LogicalImmediate XorShifted f.a f.d f.low)
    ∷ row 28 Whole Unmarked any (λ f. LogicalImmediate ImmediateAnd f.a f.d f.low)
    ∷ row 29 Whole Unmarked any (λ f. LogicalImmediate AndShifted f.a f.d f.low)
    ∷ []

-- opcode 31
abbrev pub rows_31 : List Row
rows_31 =
    row 31 (Extended 0) Unmarked to_field (λ f. CompareOrTrap (Compare true (f.d / 4) f.a f.b))
    ∷ row 31 (Extended 4) Unmarked any (λ f. CompareOrTrap (TrapWord f.d f.a f.b))
    ∷ row 31 (Extended 8) OeRc any (λ f. SubtractFrom Carrying f.d f.a f.b (oe f) f.last)
    ∷ row 31 (Extended 10) OeRc any (λ f. AddWords Carrying f.d f.a f.b (oe f) f.last)
    ∷ row 31 (Extended 11) Rc any (λ f. Multiply (MultiplyHigh false f.d f.a f.b f.last))
    ∷ row 31 (Extended 19) Unmarked one_register (λ f. MoveCondition (MoveFromConditionRegister f.d))
    ∷ row 31 (Extended 23) Unmarked any (λ f. LoadIndexed LoadWord false f.d f.a f.b)
    ∷ row 31 (Extended 24) Rc any (λ f. Shift Left f.a f.d f.b f.last)
    ∷ row 31 (Extended 26) Rc no_b (λ f. Unary CountLeadingZeros f.a f.d f.last)
    ∷ row 31 (Extended 28) Rc any (λ f. Logical LogicalAnd f.a f.d f.b f.last)
    ∷ row 31 (Extended 32) Unmarked to_field (λ f. CompareOrTrap (Compare false (f.d / 4) f.a f.b))
    ∷ row 31 (Extended 40) OeRc any (λ f. SubtractFrom Plain f.d f.a f.b (oe f) f.last)
    ∷ row 31 (Extended 55) Unmarked load_update (λ f. LoadIndexed LoadWord true f.d f.a f.b)
    ∷ row 31 (Extended 60) Rc any (λ f. Logical AndComplement f.a f.d f.b f.last)
    ∷ row 31 (Extended 75) Rc any (λ f. Multiply (MultiplyHigh true f.d f.a f.b f.last))
    ∷ row 31 (Extended 87) Unmarked any (λ f. LoadIndexed LoadByte false f.d f.a f.b)
    ∷ row 31 (Extended 104) OeRc no_b (λ f. Negate f.d f.a (oe f) f.last)
    ∷ row 31 (Extended 119) Unmarked load_update (λ f. LoadIndexed LoadByte true f.d f.a f.b)
    ∷ row 31 (Extended 124) Rc any (λ f. Logical LogicalNor f.a f.d f.b f.last)
    ∷ row 31 (Extended 136) OeRc any (λ f. SubtractFrom WithCarry f.d f.a f.b (oe f) f.last)
    ∷ row 31 (Extended 138) OeRc any (λ f. AddWords WithCarry f.d f.a f.b (oe f) f.last)
    ∷ row 31 (Extended 144) Unmarked mask_move (λ f. MoveCondition (MoveToConditionFields (f.a * 16 + f.b / 2) f.d))
    ∷ row 31 (Extended 151) Unmarked any (λ f. StoreIndexed StoreWord false f.d f.a f.b)
    ∷ row 31 (Extended 183) Unmarked store_update (λ f. StoreIndexed StoreWord true f.d f.a f.b)
    ∷ row 31 (Extended 200) OeRc no_b (λ f. SubtractFromExtended ZeroOperand f.d f.a (oe f) f.last)
    ∷ row 31 (Extended 202) OeRc no_b (λ f. AddExtended ZeroOperand f.d f.a (oe f) f.last)
    ∷ row 31 (Extended 215) Unmarked any (λ f. StoreIndexed StoreByte false f.d f.a f.b)
    ∷ row 31 (Extended 232) OeRc no_b (λ f. SubtractFromExtended MinusOne f.d f.a (oe f) f.last)
    ∷ row 31 (Extended 234) OeRc no_b (λ f. AddExtended MinusOne f.d f.a (oe f) f.last)
    ∷ row 31 (Extended 235) OeRc any (λ f. Multiply (MultiplyLow f.d f.a f.b (oe f) f.last))
    ∷ row 31 (Extended 247) Unmarked store_update (λ f. StoreIndexed StoreByte true f.d f.a f.b)
    ∷ row 31 (Extended 266) OeRc any (λ f. AddWords Plain f.d f.a f.b (oe f) f.last)
    ∷ row 31 (Extended 279) Unmarked any (λ f. LoadIndexed LoadHalf false f.d f.a f.b)
    ∷ row 31 (Extended 284) Rc any (λ f. Logical Equivalent f.a f.d f.b f.last)
    ∷ row 31 (Extended 311) Unmarked load_update (λ f. LoadIndexed LoadHalf true f.d f.a f.b)
    ∷ row 31 (Extended 316) Rc any (λ f. Logical LogicalXor f.a f.d f.b f.last)
    ∷ row 31 (Special 339 1) Unmarked any (λ f. MoveSpecial (MoveFromSpecial f.d Xer))
    ∷ row 31 (Special 339 8) Unmarked any (λ f. MoveSpecial (MoveFromSpecial f.d LinkSpecial))
    ∷ row 31 (Special 339 9) Unmarked any (λ f. MoveSpecial (MoveFromSpecial f.d CountSpecial))
    ∷ row 31 (Extended 343) Unmarked any (λ f. LoadIndexed HalfAlgebraic false f.d f.a f.b)
    ∷ row 31 (Extended 375) Unmarked load_update (λ f. LoadIndexed HalfAlgebraic true f.d f.a f.b)
    ∷ row 31 (Extended 407) Unmarked any (λ f. StoreIndexed StoreHalf false f.d f.a f.b)
    ∷ row 31 (Extended 412) Rc any (λ f. Logical OrComplement f.a f.d f.b f.last)
    ∷ row 31 (Extended 439) Unmarked store_update (λ f. StoreIndexed StoreHalf true f.d f.a f.b)
    ∷ row 31 (Extended 444) Rc any (λ f. Logical LogicalOr f.a f.d f.b f.last)
    ∷ row 31 (Extended 459) OeRc any (λ f. Divide false f.d f.a f.b (oe f) f.last)
    ∷ row 31 (Special 467 1) Unmarked any (λ f. MoveSpecial (MoveToSpecial Xer f.d))
    ∷ row 31 (Special 467 8) Unmarked any (λ f. MoveSpecial (MoveToSpecial LinkSpecial f.d))
    ∷ row 31 (Special 467 9) Unmarked any (λ f. MoveSpecial (MoveToSpecial CountSpecial f.d))
    ∷ row 31 (Extended 476) Rc any (λ f. Logical LogicalNand f.a f.d f.b f.last)
    ∷ row 31 (Extended 491) OeRc any (λ f. Divide true f.d f.a f.b (oe f) f.last)
    ∷ row 31 (Extended 512) Unmarked one_field (λ f. MoveXerToConditionField (f.d / 4))
    ∷ row 31 (Extended 533) Unmarked any (λ f. StringIndexed (LoadStringIndexed f.d f.a f.b))
    ∷ row 31 (Extended 534) Unmarked any (λ f. Reversed (LoadReversed ReversedWord f.d f.a f.b))
    ∷ row 31 (Extended 536) Rc any (λ f. Shift Right f.a f.d f.b f.last)
    ∷ row 31 (Extended 597) Unmarked string_load (λ f. StringImmediate (LoadStringImmediate f.d f.a f.b))
    ∷ row 31 (Extended 598) Unmarked bare (λ f. Synchronize)
    ∷ row 31 (Extended 661) Unmarked any (λ f. StringIndexed (StoreStringIndexed f.d f.a f.b))
    ∷ row 31 (Extended 662) Unmarked any (λ f. Reversed (StoreReversed ReversedWord f.d f.a f.b))
    ∷ row 31 (Extended 725) Unmarked any (λ f. StringImmediate (StoreStringImmediate f.d f.a f.b))
    ∷ row 31 (Extended 790) Unmarked any (λ f. Reversed (LoadReversed ReversedHalf f.d f.a f.b))
    ∷ row 31 (Extended 792) Rc any (λ f. Shift RightAlgebraic f.a f.d f.b f.last)
    ∷ row 31 (Extended 824) Rc any (λ f. ShiftRightAlgebraicImmediate f.a f.d f.b f.last)
    ∷ row 31 (Extended 918) Unmarked any (λ f. Reversed (StoreReversed ReversedHalf f.d f.a f.b))
    ∷ row 31 (Extended 922) Rc no_b (λ f. Unary ExtendSignHalf f.a f.d f.last)
    ∷ row 31 (Extended 954) Rc no_b (λ f. Unary ExtendSignByte f.a f.d f.last)
    ∷ []

-- opcodes 32 to 47
abbrev pub rows_to_47 : List Row
rows_to_47 =
    row 32 Whole Unmarked any (λ f. Load LoadWord false f.d f.a f.low)
    ∷ row 33 Whole Unmarked load_update (λ f. Load LoadWord true f.d f.a f.low)
    ∷ row 34 Whole Unmarked any (λ f. Load LoadByte false f.d f.a f.low)
    ∷ row 35 Whole Unmarked load_update (λ f. Load LoadByte true f.d f.a f.low)
    ∷ row 36 Whole Unmarked any (λ f. Store StoreWord false f.d f.a f.low)
    ∷ row 37 Whole Unmarked store_update (λ f. Store StoreWord true f.d f.a f.low)
    ∷ row 38 Whole Unmarked any (λ f. Store StoreByte false f.d f.a f.low)
    ∷ row 39 Whole Unmarked store_update (λ f. Store StoreByte true f.d f.a f.low)
    ∷ row 40 Whole Unmarked any (λ f. Load LoadHalf false f.d f.a f.low)
    ∷ row 41 Whole Unmarked load_update (λ f. Load LoadHalf true f.d f.a f.low)
    ∷ row 42 Whole Unmarked any (λ f. Load HalfAlgebraic false f.d f.a f.low)
    ∷ row 43 Whole Unmarked load_update (λ f. Load HalfAlgebraic true f.d f.a f.low)
    ∷ row 44 Whole Unmarked any (λ f. Store StoreHalf false f.d f.a f.low)
    ∷ row 45 Whole Unmarked store_update (λ f. Store StoreHalf true f.d f.a f.low)
    ∷ row 46 Whole Unmarked multiple_load (λ f. Multiple (LoadMultiple f.d f.a f.low))
    ∷ row 47 Whole Unmarked any (λ f. Multiple (StoreMultiple f.d f.a f.low))
    ∷ []

abbrev pub table : List Row
table = rows_to_18 ++ rows_19 ++ rows_to_29 ++ rows_31 ++ rows_to_47

-- the instruction of the row that a word is in; none, where it is in no row, or not allowed there
abbrev pub found : List Row → Fields → Option InstrPpc
found [] f = None
found (r ∷ rows) f = if is_in r f then (if is_allowed r f then Some (instruction_in r f) else None) else found rows f

-- the instruction of a word
unfoldable pub decoded : ℕ → Option InstrPpc
decoded w = found table (fields_of w)
