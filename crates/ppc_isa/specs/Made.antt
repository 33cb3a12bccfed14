-- The instruction that an operation makes of a word's fields: what its row of the table makes of them
-- (PowerPC 601 RISC Microprocessor User's Manual, chapter 10).
use Rattle.std.specs.Prelude.{ℕ, ◌+◌, ◌*◌, ◌/◌, ◌%◌, ◌^◌, true, false, Option, Some, None}
use Rattle.ppc_isa.specs.declared.instruction.CarryUse.TheVariants.{Plain, Carrying, Extended}
use Rattle.ppc_isa.specs.declared.instruction.ExtendedOperand.TheVariants.{Zero as ZeroOperand, MinusOne}
use Rattle.ppc_isa.specs.declared.instruction.ImmediateOp.TheVariants.{Or as ImmediateOr, OrShifted, Xor as ImmediateXor, XorShifted, And as ImmediateAnd, AndShifted}
use Rattle.ppc_isa.specs.declared.instruction.LogicalOp.TheVariants.{And as LogicalAnd, Or as LogicalOr, Xor as LogicalXor, Nand as LogicalNand, Nor as LogicalNor, Equivalent, AndComplement, OrComplement}
use Rattle.ppc_isa.specs.declared.instruction.UnaryOp.TheVariants.{ExtendSignByte, ExtendSignHalf, CountLeadingZeros}
use Rattle.ppc_isa.specs.declared.instruction.ShiftOp.TheVariants.{Left, Right, RightAlgebraic}
use Rattle.ppc_isa.specs.declared.instruction.MaskUse.TheVariants.{Insert, Clear}
use Rattle.ppc_isa.specs.declared.instruction.LoadKind.TheVariants.{Word as LoadWord, Byte as LoadByte, Half as LoadHalf, HalfAlgebraic}
use Rattle.ppc_isa.specs.declared.instruction.StoreKind.TheVariants.{Word as StoreWord, Byte as StoreByte, Half as StoreHalf}
use Rattle.ppc_isa.specs.declared.instruction.ReversedKind.TheVariants.{Word as ReversedWord, Half as ReversedHalf}
use Rattle.ppc_isa.specs.declared.instruction.BranchRegister.TheVariants.{Link as LinkTarget, Count as CountTarget}
use Rattle.ppc_isa.specs.declared.instruction.SpecialRegister.TheVariants.{Xer, Link as LinkSpecial, Count as CountSpecial}
use Rattle.ppc_isa.specs.declared.instruction.InstrPpc.{InstrPpc}
use Rattle.ppc_isa.specs.declared.instruction.InstrPpc.TheVariants.{Add as AddWords, AddExtended, AddImmediate, AddImmediateCarrying, Branch, BranchConditional, BranchConditionalToRegister, CompareImmediate, ConditionLogical, Divide, InstructionSynchronize, Load, LoadIndexed, Logical, LogicalImmediate, MoveConditionField, MoveXerToConditionField, MultiplyLowImmediate, Negate, Shift, ShiftRightAlgebraicImmediate, Store, StoreIndexed, SubtractFrom, SubtractFromExtended, SubtractFromImmediateCarrying, Synchronize, TrapWordImmediate, Unary, CompareOrTrap, Multiple, Reversed, StringImmediate, StringIndexed, MoveCondition, MoveSpecial, Multiply, Rotate}
use Rattle.ppc_isa.specs.declared.instruction.Comparison.TheVariants.{Compare, TrapWord}
use Rattle.ppc_isa.specs.declared.instruction.MultipleAccess.TheVariants.{LoadMultiple, StoreMultiple}
use Rattle.ppc_isa.specs.declared.instruction.ReversedAccess.TheVariants.{LoadReversed, StoreReversed}
use Rattle.ppc_isa.specs.declared.instruction.StringImmediateAccess.TheVariants.{LoadStringImmediate, StoreStringImmediate}
use Rattle.ppc_isa.specs.declared.instruction.StringIndexedAccess.TheVariants.{LoadStringIndexed, StoreStringIndexed}
use Rattle.ppc_isa.specs.declared.instruction.ConditionMove.TheVariants.{MoveFromConditionRegister, MoveToConditionFields}
use Rattle.ppc_isa.specs.declared.instruction.SpecialMove.TheVariants.{MoveFromSpecial, MoveToSpecial}
use Rattle.ppc_isa.specs.declared.instruction.Multiplication.TheVariants.{MultiplyHigh, MultiplyLow}
use Rattle.ppc_isa.specs.declared.instruction.Rotation.TheVariants.{RotateLeft, RotateLeftImmediate}
use Rattle.ppc_isa.specs.declared.fields.Fields.{Fields}
use Rattle.ppc_isa.specs.Fields.{aa, displacement_of, oe}
use Rattle.ppc_isa.specs.declared.op.OpPpc.{OpPpc}
use Rattle.ppc_isa.specs.declared.op.OpPpc.TheVariants.{Twi, Mulli, Subfic, Cmpli, Cmpi, Addic, AddicRecord, Addi, Addis, Bc, B, Rlwimi, Rlwinm, Rlwnm, Ori, Oris, Xori, Xoris, Andi, Andis, Lwz, Lwzu, Lbz, Lbzu, Stw, Stwu, Stb, Stbu, Lhz, Lhzu, Lha, Lhau, Sth, Sthu, Lmw, Stmw, Mcrf, Bclr, Crnor, Crandc, Isync, Crxor, Crnand, Crand, Creqv, Crorc, Cror, Bcctr, Cmp, Tw, Subfc, Addc, Mulhwu, Mfcr, Lwzx, Slw, Cntlzw, And, Cmpl, Subf, Lwzux, Andc, Mulhw, Lbzx, Neg, Lbzux, Nor, Subfe, Adde, Mtcrf, Stwx, Stwux, Subfze, Addze, Stbx, Subfme, Addme, Mullw, Stbux, Add, Lhzx, Eqv, Lhzux, Xor, Mfxer, Mflr, Mfctr, Lhax, Lhaux, Sthx, Orc, Sthux, Or, Divwu, Mtxer, Mtlr, Mtctr, Nand, Divw, Mcrxr, Lswx, Lwbrx, Srw, Lswi, Sync, Stswx, Stwbrx, Stswi, Lhbrx, Sraw, Srawi, Sthbrx, Extsh, Extsb, Invalid}

-- the instruction of an operation with these fields
abbrev pub made : OpPpc → Fields → Option InstrPpc
made Twi f = Some (TrapWordImmediate f.d f.a f.low)
made Mulli f = Some (MultiplyLowImmediate f.d f.a f.low)
made Subfic f = Some (SubtractFromImmediateCarrying f.d f.a f.low)
made Cmpli f = Some (CompareImmediate false (f.d / 4) f.a f.low)
made Cmpi f = Some (CompareImmediate true (f.d / 4) f.a f.low)
made Addic f = Some (AddImmediateCarrying false f.d f.a f.low)
made AddicRecord f = Some (AddImmediateCarrying true f.d f.a f.low)
made Addi f = Some (AddImmediate false f.d f.a f.low)
made Addis f = Some (AddImmediate true f.d f.a f.low)
made Bc f = Some (BranchConditional f.d f.a (displacement_of 16 (f.low / 4 * 4)) (aa f) f.last)
made B f = Some (Branch (displacement_of 26 (f.d * 2 ^ 21 + f.a * 2 ^ 16 + f.low / 4 * 4)) (aa f) f.last)
made Rlwimi f = Some (Rotate (RotateLeftImmediate Insert f.a f.d f.b (f.xo / 32) (f.xo % 32) f.last))
made Rlwinm f = Some (Rotate (RotateLeftImmediate Clear f.a f.d f.b (f.xo / 32) (f.xo % 32) f.last))
made Rlwnm f = Some (Rotate (RotateLeft f.a f.d f.b (f.xo / 32) (f.xo % 32) f.last))
made Ori f = Some (LogicalImmediate ImmediateOr f.a f.d f.low)
made Oris f = Some (LogicalImmediate OrShifted f.a f.d f.low)
made Xori f = Some (LogicalImmediate ImmediateXor f.a f.d f.low)
made Xoris f = Some (LogicalImmediate XorShifted f.a f.d f.low)
made Andi f = Some (LogicalImmediate ImmediateAnd f.a f.d f.low)
made Andis f = Some (LogicalImmediate AndShifted f.a f.d f.low)
made Lwz f = Some (Load LoadWord false f.d f.a f.low)
made Lwzu f = Some (Load LoadWord true f.d f.a f.low)
made Lbz f = Some (Load LoadByte false f.d f.a f.low)
made Lbzu f = Some (Load LoadByte true f.d f.a f.low)
made Stw f = Some (Store StoreWord false f.d f.a f.low)
made Stwu f = Some (Store StoreWord true f.d f.a f.low)
made Stb f = Some (Store StoreByte false f.d f.a f.low)
made Stbu f = Some (Store StoreByte true f.d f.a f.low)
made Lhz f = Some (Load LoadHalf false f.d f.a f.low)
made Lhzu f = Some (Load LoadHalf true f.d f.a f.low)
made Lha f = Some (Load HalfAlgebraic false f.d f.a f.low)
made Lhau f = Some (Load HalfAlgebraic true f.d f.a f.low)
made Sth f = Some (Store StoreHalf false f.d f.a f.low)
made Sthu f = Some (Store StoreHalf true f.d f.a f.low)
made Lmw f = Some (Multiple (LoadMultiple f.d f.a f.low))
made Stmw f = Some (Multiple (StoreMultiple f.d f.a f.low))
made Mcrf f = Some (MoveConditionField (f.d / 4) (f.a / 4))
made Bclr f = Some (BranchConditionalToRegister LinkTarget f.d f.a f.last)
made Crnor f = Some (ConditionLogical LogicalNor f.d f.a f.b)
made Crandc f = Some (ConditionLogical AndComplement f.d f.a f.b)
made Isync f = Some InstructionSynchronize
made Crxor f = Some (ConditionLogical LogicalXor f.d f.a f.b)
made Crnand f = Some (ConditionLogical LogicalNand f.d f.a f.b)
made Crand f = Some (ConditionLogical LogicalAnd f.d f.a f.b)
made Creqv f = Some (ConditionLogical Equivalent f.d f.a f.b)
made Crorc f = Some (ConditionLogical OrComplement f.d f.a f.b)
made Cror f = Some (ConditionLogical LogicalOr f.d f.a f.b)
made Bcctr f = Some (BranchConditionalToRegister CountTarget f.d f.a f.last)
made Cmp f = Some (CompareOrTrap (Compare true (f.d / 4) f.a f.b))
made Tw f = Some (CompareOrTrap (TrapWord f.d f.a f.b))
made Subfc f = Some (SubtractFrom Carrying f.d f.a f.b (oe f) f.last)
made Addc f = Some (AddWords Carrying f.d f.a f.b (oe f) f.last)
made Mulhwu f = Some (Multiply (MultiplyHigh false f.d f.a f.b f.last))
made Mfcr f = Some (MoveCondition (MoveFromConditionRegister f.d))
made Lwzx f = Some (LoadIndexed LoadWord false f.d f.a f.b)
made Slw f = Some (Shift Left f.a f.d f.b f.last)
made Cntlzw f = Some (Unary CountLeadingZeros f.a f.d f.last)
made And f = Some (Logical LogicalAnd f.a f.d f.b f.last)
made Cmpl f = Some (CompareOrTrap (Compare false (f.d / 4) f.a f.b))
made Subf f = Some (SubtractFrom Plain f.d f.a f.b (oe f) f.last)
made Lwzux f = Some (LoadIndexed LoadWord true f.d f.a f.b)
made Andc f = Some (Logical AndComplement f.a f.d f.b f.last)
made Mulhw f = Some (Multiply (MultiplyHigh true f.d f.a f.b f.last))
made Lbzx f = Some (LoadIndexed LoadByte false f.d f.a f.b)
made Neg f = Some (Negate f.d f.a (oe f) f.last)
made Lbzux f = Some (LoadIndexed LoadByte true f.d f.a f.b)
made Nor f = Some (Logical LogicalNor f.a f.d f.b f.last)
made Subfe f = Some (SubtractFrom Extended f.d f.a f.b (oe f) f.last)
made Adde f = Some (AddWords Extended f.d f.a f.b (oe f) f.last)
made Mtcrf f = Some (MoveCondition (MoveToConditionFields (f.a * 16 + f.b / 2) f.d))
made Stwx f = Some (StoreIndexed StoreWord false f.d f.a f.b)
made Stwux f = Some (StoreIndexed StoreWord true f.d f.a f.b)
made Subfze f = Some (SubtractFromExtended ZeroOperand f.d f.a (oe f) f.last)
made Addze f = Some (AddExtended ZeroOperand f.d f.a (oe f) f.last)
made Stbx f = Some (StoreIndexed StoreByte false f.d f.a f.b)
made Subfme f = Some (SubtractFromExtended MinusOne f.d f.a (oe f) f.last)
made Addme f = Some (AddExtended MinusOne f.d f.a (oe f) f.last)
made Mullw f = Some (Multiply (MultiplyLow f.d f.a f.b (oe f) f.last))
made Stbux f = Some (StoreIndexed StoreByte true f.d f.a f.b)
made Add f = Some (AddWords Plain f.d f.a f.b (oe f) f.last)
made Lhzx f = Some (LoadIndexed LoadHalf false f.d f.a f.b)
made Eqv f = Some (Logical Equivalent f.a f.d f.b f.last)
made Lhzux f = Some (LoadIndexed LoadHalf true f.d f.a f.b)
made Xor f = Some (Logical LogicalXor f.a f.d f.b f.last)
made Mfxer f = Some (MoveSpecial (MoveFromSpecial f.d Xer))
made Mflr f = Some (MoveSpecial (MoveFromSpecial f.d LinkSpecial))
made Mfctr f = Some (MoveSpecial (MoveFromSpecial f.d CountSpecial))
made Lhax f = Some (LoadIndexed HalfAlgebraic false f.d f.a f.b)
made Lhaux f = Some (LoadIndexed HalfAlgebraic true f.d f.a f.b)
made Sthx f = Some (StoreIndexed StoreHalf false f.d f.a f.b)
made Orc f = Some (Logical OrComplement f.a f.d f.b f.last)
made Sthux f = Some (StoreIndexed StoreHalf true f.d f.a f.b)
made Or f = Some (Logical LogicalOr f.a f.d f.b f.last)
made Divwu f = Some (Divide false f.d f.a f.b (oe f) f.last)
made Mtxer f = Some (MoveSpecial (MoveToSpecial Xer f.d))
made Mtlr f = Some (MoveSpecial (MoveToSpecial LinkSpecial f.d))
made Mtctr f = Some (MoveSpecial (MoveToSpecial CountSpecial f.d))
made Nand f = Some (Logical LogicalNand f.a f.d f.b f.last)
made Divw f = Some (Divide true f.d f.a f.b (oe f) f.last)
made Mcrxr f = Some (MoveXerToConditionField (f.d / 4))
made Lswx f = Some (StringIndexed (LoadStringIndexed f.d f.a f.b))
made Lwbrx f = Some (Reversed (LoadReversed ReversedWord f.d f.a f.b))
made Srw f = Some (Shift Right f.a f.d f.b f.last)
made Lswi f = Some (StringImmediate (LoadStringImmediate f.d f.a f.b))
made Sync f = Some Synchronize
made Stswx f = Some (StringIndexed (StoreStringIndexed f.d f.a f.b))
made Stwbrx f = Some (Reversed (StoreReversed ReversedWord f.d f.a f.b))
made Stswi f = Some (StringImmediate (StoreStringImmediate f.d f.a f.b))
made Lhbrx f = Some (Reversed (LoadReversed ReversedHalf f.d f.a f.b))
made Sraw f = Some (Shift RightAlgebraic f.a f.d f.b f.last)
made Srawi f = Some (ShiftRightAlgebraicImmediate f.a f.d f.b f.last)
made Sthbrx f = Some (Reversed (StoreReversed ReversedHalf f.d f.a f.b))
made Extsh f = Some (Unary ExtendSignHalf f.a f.d f.last)
made Extsb f = Some (Unary ExtendSignByte f.a f.d f.last)
made Invalid f = None
