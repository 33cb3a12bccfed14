-- Instructions as words: each instruction's spelling
-- (PowerPC 601 RISC Microprocessor User's Manual, chapter 10 and appendix A).
use Rattle.std.specs.Prelude.{ℕ, ◌+◌, ◌*◌, ◌/◌, ◌%◌, ◌^◌, Bool, true, false}
use Rattle.std.specs.Int.{from_bool}
use Rattle.ppc_isa.specs.declared.instruction.CarryUse.TheVariants.{Plain, Carrying, Extended}
use Rattle.ppc_isa.specs.declared.instruction.ExtendedOperand.TheVariants.{Zero as ZeroOperand, MinusOne}
use Rattle.ppc_isa.specs.declared.instruction.ImmediateOp.TheVariants.{Or as ImmediateOr, OrShifted, Xor as ImmediateXor, XorShifted, And as ImmediateAnd, AndShifted}
use Rattle.ppc_isa.specs.declared.instruction.LogicalOp.TheVariants.{And, Or, Xor, Nand, Nor, Equivalent, AndComplement, OrComplement}
use Rattle.ppc_isa.specs.declared.instruction.UnaryOp.TheVariants.{ExtendSignByte, ExtendSignHalf, CountLeadingZeros}
use Rattle.ppc_isa.specs.declared.instruction.ShiftOp.TheVariants.{Left, Right, RightAlgebraic}
use Rattle.ppc_isa.specs.declared.instruction.MaskUse.TheVariants.{Insert, Clear}
use Rattle.ppc_isa.specs.declared.instruction.LoadKind.TheVariants.{Word as LoadWord, Byte as LoadByte, Half as LoadHalf, HalfAlgebraic}
use Rattle.ppc_isa.specs.declared.instruction.StoreKind.TheVariants.{Word as StoreWord, Byte as StoreByte, Half as StoreHalf}
use Rattle.ppc_isa.specs.declared.instruction.ReversedKind.TheVariants.{Word as ReversedWord, Half as ReversedHalf}
use Rattle.ppc_isa.specs.declared.instruction.BranchRegister.TheVariants.{Link as LinkTarget, Count as CountTarget}
use Rattle.ppc_isa.specs.declared.instruction.SpecialRegister.TheVariants.{Xer, Link as LinkSpecial, Count as CountSpecial}
use Rattle.ppc_isa.specs.declared.instruction.InstrPpc.{InstrPpc}
use Rattle.ppc_isa.specs.declared.instruction.InstrPpc.TheVariants.{TrapWordImmediate, MultiplyLowImmediate, SubtractFromImmediateCarrying, CompareImmediate, AddImmediateCarrying, AddImmediate, BranchConditional, Branch, LogicalImmediate, Load, Store, MoveConditionField, BranchConditionalToRegister, ConditionLogical, InstructionSynchronize, Add, AddExtended, SubtractFrom, SubtractFromExtended, Negate, Divide, Logical, Unary, Shift, ShiftRightAlgebraicImmediate, LoadIndexed, StoreIndexed, MoveXerToConditionField, Synchronize, Rotate, Multiple, Multiply, CompareOrTrap, Reversed, StringImmediate, StringIndexed, MoveCondition, MoveSpecial}
use Rattle.ppc_isa.specs.declared.instruction.Rotation.TheVariants.{RotateLeftImmediate, RotateLeft}
use Rattle.ppc_isa.specs.declared.instruction.MultipleAccess.TheVariants.{LoadMultiple, StoreMultiple}
use Rattle.ppc_isa.specs.declared.instruction.Multiplication.TheVariants.{MultiplyLow, MultiplyHigh}
use Rattle.ppc_isa.specs.declared.instruction.Comparison.TheVariants.{Compare, TrapWord}
use Rattle.ppc_isa.specs.declared.instruction.ReversedAccess.TheVariants.{LoadReversed, StoreReversed}
use Rattle.ppc_isa.specs.declared.instruction.StringImmediateAccess.TheVariants.{LoadStringImmediate, StoreStringImmediate}
use Rattle.ppc_isa.specs.declared.instruction.StringIndexedAccess.TheVariants.{LoadStringIndexed, StoreStringIndexed}
use Rattle.ppc_isa.specs.declared.instruction.ConditionMove.TheVariants.{MoveFromConditionRegister, MoveToConditionFields}
use Rattle.ppc_isa.specs.declared.instruction.SpecialMove.TheVariants.{MoveFromSpecial, MoveToSpecial}

-- an opcode, two fields of five bits, and sixteen bits
abbrev pub immediate_form : ℕ → ℕ → ℕ → ℕ → ℕ
immediate_form op d a low = ((op * 2 ^ 5 + d) * 2 ^ 5 + a) * 2 ^ 16 + low

-- an opcode, three fields of five bits, an extended opcode of ten bits, and the last bit
abbrev pub extended_form : ℕ → ℕ → ℕ → ℕ → ℕ → Bool → ℕ
extended_form op d a b xo last = immediate_form op d a (b * 2 ^ 11 + xo * 2 + from_bool last)

-- opcode 31 where the extended opcode has nine bits, with OE before it
abbrev pub overflow_form : ℕ → ℕ → ℕ → ℕ → Bool → Bool → ℕ
overflow_form d a b xo oe rc = extended_form 31 d a b (from_bool oe * 2 ^ 9 + xo) rc

-- the word of an instruction whose fields are in range
abbrev pub word_of : InstrPpc → ℕ
word_of (TrapWordImmediate to a immediate) = immediate_form 3 to a immediate
word_of (MultiplyLowImmediate d a immediate) = immediate_form 7 d a immediate
word_of (SubtractFromImmediateCarrying d a immediate) = immediate_form 8 d a immediate
word_of (CompareImmediate false field a immediate) = immediate_form 10 (field * 4) a immediate
word_of (CompareImmediate true field a immediate) = immediate_form 11 (field * 4) a immediate
word_of (AddImmediateCarrying false d a immediate) = immediate_form 12 d a immediate
word_of (AddImmediateCarrying true d a immediate) = immediate_form 13 d a immediate
word_of (AddImmediate false d a immediate) = immediate_form 14 d a immediate
word_of (AddImmediate true d a immediate) = immediate_form 15 d a immediate
word_of (BranchConditional bo bi displacement aa lk) = immediate_form 16 bo bi (displacement % 2 ^ 16 + from_bool aa * 2 + from_bool lk)
word_of (Branch displacement aa lk) = 18 * 2 ^ 26 + displacement % 2 ^ 26 + from_bool aa * 2 + from_bool lk
word_of (Rotate (RotateLeftImmediate Insert a s sh mb me rc)) = extended_form 20 s a sh (mb * 2 ^ 5 + me) rc
word_of (Rotate (RotateLeftImmediate Clear a s sh mb me rc)) = extended_form 21 s a sh (mb * 2 ^ 5 + me) rc
word_of (Rotate (RotateLeft a s b mb me rc)) = extended_form 23 s a b (mb * 2 ^ 5 + me) rc
word_of (LogicalImmediate ImmediateOr a s immediate) = immediate_form 24 s a immediate
word_of (LogicalImmediate OrShifted a s immediate) = immediate_form 25 s a immediate
word_of (LogicalImmediate ImmediateXor a s immediate) = immediate_form 26 s a immediate
word_of (LogicalImmediate XorShifted a s immediate) = immediate_form 27 s a immediate
word_of (LogicalImmediate ImmediateAnd a s immediate) = immediate_form 28 s a immediate
word_of (LogicalImmediate AndShifted a s immediate) = immediate_form 29 s a immediate
word_of (Load LoadWord false d a offset) = immediate_form 32 d a offset
word_of (Load LoadWord true d a offset) = immediate_form 33 d a offset
word_of (Load LoadByte false d a offset) = immediate_form 34 d a offset
word_of (Load LoadByte true d a offset) = immediate_form 35 d a offset
word_of (Load LoadHalf false d a offset) = immediate_form 40 d a offset
word_of (Load LoadHalf true d a offset) = immediate_form 41 d a offset
word_of (Load HalfAlgebraic false d a offset) = immediate_form 42 d a offset
word_of (Load HalfAlgebraic true d a offset) = immediate_form 43 d a offset
word_of (Store StoreWord false s a offset) = immediate_form 36 s a offset
word_of (Store StoreWord true s a offset) = immediate_form 37 s a offset
word_of (Store StoreByte false s a offset) = immediate_form 38 s a offset
word_of (Store StoreByte true s a offset) = immediate_form 39 s a offset
word_of (Store StoreHalf false s a offset) = immediate_form 44 s a offset
word_of (Store StoreHalf true s a offset) = immediate_form 45 s a offset
word_of (Multiple (LoadMultiple d a offset)) = immediate_form 46 d a offset
word_of (Multiple (StoreMultiple s a offset)) = immediate_form 47 s a offset
word_of (MoveConditionField field from) = extended_form 19 (field * 4) (from * 4) 0 0 false
word_of (BranchConditionalToRegister LinkTarget bo bi lk) = extended_form 19 bo bi 0 16 lk
word_of (ConditionLogical Nor d a b) = extended_form 19 d a b 33 false
word_of (ConditionLogical AndComplement d a b) = extended_form 19 d a b 129 false
word_of InstructionSynchronize = extended_form 19 0 0 0 150 false
word_of (ConditionLogical Xor d a b) = extended_form 19 d a b 193 false
word_of (ConditionLogical Nand d a b) = extended_form 19 d a b 225 false
word_of (ConditionLogical And d a b) = extended_form 19 d a b 257 false
word_of (ConditionLogical Equivalent d a b) = extended_form 19 d a b 289 false
word_of (ConditionLogical OrComplement d a b) = extended_form 19 d a b 417 false
word_of (ConditionLogical Or d a b) = extended_form 19 d a b 449 false
word_of (BranchConditionalToRegister CountTarget bo bi lk) = extended_form 19 bo bi 0 528 lk
word_of (Add Plain d a b oe rc) = overflow_form d a b 266 oe rc
word_of (Add Carrying d a b oe rc) = overflow_form d a b 10 oe rc
word_of (Add Extended d a b oe rc) = overflow_form d a b 138 oe rc
word_of (AddExtended ZeroOperand d a oe rc) = overflow_form d a 0 202 oe rc
word_of (AddExtended MinusOne d a oe rc) = overflow_form d a 0 234 oe rc
word_of (SubtractFrom Plain d a b oe rc) = overflow_form d a b 40 oe rc
word_of (SubtractFrom Carrying d a b oe rc) = overflow_form d a b 8 oe rc
word_of (SubtractFrom Extended d a b oe rc) = overflow_form d a b 136 oe rc
word_of (SubtractFromExtended ZeroOperand d a oe rc) = overflow_form d a 0 200 oe rc
word_of (SubtractFromExtended MinusOne d a oe rc) = overflow_form d a 0 232 oe rc
word_of (Negate d a oe rc) = overflow_form d a 0 104 oe rc
word_of (Multiply (MultiplyLow d a b oe rc)) = overflow_form d a b 235 oe rc
word_of (Multiply (MultiplyHigh true d a b rc)) = extended_form 31 d a b 75 rc
word_of (Multiply (MultiplyHigh false d a b rc)) = extended_form 31 d a b 11 rc
word_of (Divide true d a b oe rc) = overflow_form d a b 491 oe rc
word_of (Divide false d a b oe rc) = overflow_form d a b 459 oe rc
word_of (Logical And a s b rc) = extended_form 31 s a b 28 rc
word_of (Logical Or a s b rc) = extended_form 31 s a b 444 rc
word_of (Logical Xor a s b rc) = extended_form 31 s a b 316 rc
word_of (Logical Nand a s b rc) = extended_form 31 s a b 476 rc
word_of (Logical Nor a s b rc) = extended_form 31 s a b 124 rc
word_of (Logical Equivalent a s b rc) = extended_form 31 s a b 284 rc
word_of (Logical AndComplement a s b rc) = extended_form 31 s a b 60 rc
word_of (Logical OrComplement a s b rc) = extended_form 31 s a b 412 rc
word_of (Unary ExtendSignByte a s rc) = extended_form 31 s a 0 954 rc
word_of (Unary ExtendSignHalf a s rc) = extended_form 31 s a 0 922 rc
word_of (Unary CountLeadingZeros a s rc) = extended_form 31 s a 0 26 rc
word_of (Shift Left a s b rc) = extended_form 31 s a b 24 rc
word_of (Shift Right a s b rc) = extended_form 31 s a b 536 rc
word_of (Shift RightAlgebraic a s b rc) = extended_form 31 s a b 792 rc
word_of (ShiftRightAlgebraicImmediate a s sh rc) = extended_form 31 s a sh 824 rc
word_of (CompareOrTrap (Compare true field a b)) = extended_form 31 (field * 4) a b 0 false
word_of (CompareOrTrap (Compare false field a b)) = extended_form 31 (field * 4) a b 32 false
word_of (CompareOrTrap (TrapWord to a b)) = extended_form 31 to a b 4 false
word_of (LoadIndexed LoadWord false d a b) = extended_form 31 d a b 23 false
word_of (LoadIndexed LoadWord true d a b) = extended_form 31 d a b 55 false
word_of (LoadIndexed LoadByte false d a b) = extended_form 31 d a b 87 false
word_of (LoadIndexed LoadByte true d a b) = extended_form 31 d a b 119 false
word_of (LoadIndexed LoadHalf false d a b) = extended_form 31 d a b 279 false
word_of (LoadIndexed LoadHalf true d a b) = extended_form 31 d a b 311 false
word_of (LoadIndexed HalfAlgebraic false d a b) = extended_form 31 d a b 343 false
word_of (LoadIndexed HalfAlgebraic true d a b) = extended_form 31 d a b 375 false
word_of (StoreIndexed StoreWord false s a b) = extended_form 31 s a b 151 false
word_of (StoreIndexed StoreWord true s a b) = extended_form 31 s a b 183 false
word_of (StoreIndexed StoreByte false s a b) = extended_form 31 s a b 215 false
word_of (StoreIndexed StoreByte true s a b) = extended_form 31 s a b 247 false
word_of (StoreIndexed StoreHalf false s a b) = extended_form 31 s a b 407 false
word_of (StoreIndexed StoreHalf true s a b) = extended_form 31 s a b 439 false
word_of (Reversed (LoadReversed ReversedWord d a b)) = extended_form 31 d a b 534 false
word_of (Reversed (LoadReversed ReversedHalf d a b)) = extended_form 31 d a b 790 false
word_of (Reversed (StoreReversed ReversedWord s a b)) = extended_form 31 s a b 662 false
word_of (Reversed (StoreReversed ReversedHalf s a b)) = extended_form 31 s a b 918 false
word_of (StringImmediate (LoadStringImmediate d a nb)) = extended_form 31 d a nb 597 false
word_of (StringImmediate (StoreStringImmediate s a nb)) = extended_form 31 s a nb 725 false
word_of (StringIndexed (LoadStringIndexed d a b)) = extended_form 31 d a b 533 false
word_of (StringIndexed (StoreStringIndexed s a b)) = extended_form 31 s a b 661 false
word_of (MoveCondition (MoveFromConditionRegister d)) = extended_form 31 d 0 0 19 false
word_of (MoveCondition (MoveToConditionFields mask s)) = extended_form 31 s (mask / 2 ^ 4) (mask % 2 ^ 4 * 2) 144 false
word_of (MoveXerToConditionField field) = extended_form 31 (field * 4) 0 0 512 false
word_of (MoveSpecial (MoveFromSpecial d Xer)) = extended_form 31 d 1 0 339 false
word_of (MoveSpecial (MoveFromSpecial d LinkSpecial)) = extended_form 31 d 8 0 339 false
word_of (MoveSpecial (MoveFromSpecial d CountSpecial)) = extended_form 31 d 9 0 339 false
word_of (MoveSpecial (MoveToSpecial Xer s)) = extended_form 31 s 1 0 467 false
word_of (MoveSpecial (MoveToSpecial LinkSpecial s)) = extended_form 31 s 8 0 467 false
word_of (MoveSpecial (MoveToSpecial CountSpecial s)) = extended_form 31 s 9 0 467 false
word_of Synchronize = extended_form 31 0 0 0 598 false
