-- Each instruction's name is in the finite list.
use Rattle.std.proofs.Common.{◌≡◌, length, Bool, true, false, refl}
use Rattle.ppc_isa.specs.declared.instruction.CarryUse.TheVariants.{Plain, Carrying, Extended}
use Rattle.ppc_isa.specs.declared.instruction.ExtendedOperand.TheVariants.{Zero as ZeroOperand, MinusOne}
use Rattle.ppc_isa.specs.declared.instruction.ImmediateOp.TheVariants.{Or as ImmediateOr, OrShifted, Xor as ImmediateXor, XorShifted, And as ImmediateAnd, AndShifted}
use Rattle.ppc_isa.specs.declared.instruction.LogicalOp.TheVariants.{And, Or, Xor, Nand, Nor, Equivalent, AndComplement, OrComplement}
use Rattle.ppc_isa.specs.declared.instruction.UnaryOp.TheVariants.{ExtendSignByte, ExtendSignHalf, CountLeadingZeros}
use Rattle.ppc_isa.specs.declared.instruction.ShiftOp.TheVariants.{Left, Right, RightAlgebraic}
use Rattle.ppc_isa.specs.declared.instruction.MaskUse.TheVariants.{Insert, Clear}
use Rattle.ppc_isa.specs.declared.instruction.LoadKind.TheVariants.{Word as LoadWord, Byte as LoadByte, Half as LoadHalf, HalfAlgebraic}
use Rattle.ppc_isa.specs.declared.instruction.StoreKind.TheVariants.{Word as StoreWord, Byte as StoreByte, Half as StoreHalf}
use Rattle.ppc_isa.specs.declared.instruction.ReversedKind.TheVariants.{Word as ReversedWord, Half as ReversedHalf}
use Rattle.ppc_isa.specs.declared.instruction.BranchRegister.TheVariants.{Link as LinkTarget, Count as CountTarget}
use Rattle.ppc_isa.specs.declared.instruction.SpecialRegister.TheVariants.{Xer, Link as LinkSpecial, Count as CountSpecial}
use Rattle.ppc_isa.specs.declared.instruction.InstrPpc.{InstrPpc}
use Rattle.ppc_isa.specs.declared.instruction.InstrPpc.TheVariants.{TrapWordImmediate, MultiplyLowImmediate, SubtractFromImmediateCarrying, CompareImmediate, AddImmediateCarrying, AddImmediate, BranchConditional, Branch, LogicalImmediate, Load, Store, MoveConditionField, BranchConditionalToRegister, ConditionLogical, InstructionSynchronize, Add, AddExtended, SubtractFrom, SubtractFromExtended, Negate, Divide, Logical, Unary, Shift, ShiftRightAlgebraicImmediate, LoadIndexed, StoreIndexed, MoveXerToConditionField, Synchronize, Rotate, Multiple, Multiply, CompareOrTrap, Reversed, StringImmediate, StringIndexed, MoveCondition, MoveSpecial}
use Rattle.ppc_isa.specs.declared.instruction.Rotation.TheVariants.{RotateLeftImmediate, RotateLeft}
use Rattle.ppc_isa.specs.declared.instruction.MultipleAccess.TheVariants.{LoadMultiple, StoreMultiple}
use Rattle.ppc_isa.specs.declared.instruction.Multiplication.TheVariants.{MultiplyLow, MultiplyHigh}
use Rattle.ppc_isa.specs.declared.instruction.Comparison.TheVariants.{Compare, TrapWord}
use Rattle.ppc_isa.specs.declared.instruction.ReversedAccess.TheVariants.{LoadReversed, StoreReversed}
use Rattle.ppc_isa.specs.declared.instruction.StringImmediateAccess.TheVariants.{LoadStringImmediate, StoreStringImmediate}
use Rattle.ppc_isa.specs.declared.instruction.StringIndexedAccess.TheVariants.{LoadStringIndexed, StoreStringIndexed}
use Rattle.ppc_isa.specs.declared.instruction.ConditionMove.TheVariants.{MoveFromConditionRegister, MoveToConditionFields}
use Rattle.ppc_isa.specs.declared.instruction.SpecialMove.TheVariants.{MoveFromSpecial, MoveToSpecial}
use Rattle.ppc_text.specs.Instructions.{name}
use Rattle.ppc_text.specs.Listed.{is_name, names, shapes}

pub all_names : length names ≡ 181
unfolding names shapes
all_names = refl

pub names_listed : (i : InstrPpc) → is_name (name i) ≡ true
unfolding names shapes
names_listed (AddImmediate false d a immediate) = refl
names_listed (AddImmediate true d a immediate) = refl
names_listed (AddImmediateCarrying false d a immediate) = refl
names_listed (AddImmediateCarrying true d a immediate) = refl
names_listed (SubtractFromImmediateCarrying d a immediate) = refl
names_listed (MultiplyLowImmediate d a immediate) = refl
names_listed (CompareImmediate true field a immediate) = refl
names_listed (CompareImmediate false field a immediate) = refl
names_listed (TrapWordImmediate to a immediate) = refl
names_listed (LogicalImmediate ImmediateOr a s immediate) = refl
names_listed (LogicalImmediate OrShifted a s immediate) = refl
names_listed (LogicalImmediate ImmediateXor a s immediate) = refl
names_listed (LogicalImmediate XorShifted a s immediate) = refl
names_listed (LogicalImmediate ImmediateAnd a s immediate) = refl
names_listed (LogicalImmediate AndShifted a s immediate) = refl
names_listed (Rotate (RotateLeftImmediate Insert a s sh mb me false)) = refl
names_listed (Rotate (RotateLeftImmediate Insert a s sh mb me true)) = refl
names_listed (Rotate (RotateLeftImmediate Clear a s sh mb me false)) = refl
names_listed (Rotate (RotateLeftImmediate Clear a s sh mb me true)) = refl
names_listed (Rotate (RotateLeft a s b mb me false)) = refl
names_listed (Rotate (RotateLeft a s b mb me true)) = refl
names_listed (BranchConditional bo bi displacement false false) = refl
names_listed (BranchConditional bo bi displacement true false) = refl
names_listed (BranchConditional bo bi displacement false true) = refl
names_listed (BranchConditional bo bi displacement true true) = refl
names_listed (Branch displacement false false) = refl
names_listed (Branch displacement true false) = refl
names_listed (Branch displacement false true) = refl
names_listed (Branch displacement true true) = refl
names_listed (Load LoadWord false d a offset) = refl
names_listed (Load LoadWord true d a offset) = refl
names_listed (Load LoadByte false d a offset) = refl
names_listed (Load LoadByte true d a offset) = refl
names_listed (Load LoadHalf false d a offset) = refl
names_listed (Load LoadHalf true d a offset) = refl
names_listed (Load HalfAlgebraic false d a offset) = refl
names_listed (Load HalfAlgebraic true d a offset) = refl
names_listed (Store StoreWord false s a offset) = refl
names_listed (Store StoreWord true s a offset) = refl
names_listed (Store StoreByte false s a offset) = refl
names_listed (Store StoreByte true s a offset) = refl
names_listed (Store StoreHalf false s a offset) = refl
names_listed (Store StoreHalf true s a offset) = refl
names_listed (Multiple (LoadMultiple d a offset)) = refl
names_listed (Multiple (StoreMultiple s a offset)) = refl
names_listed (MoveConditionField field from) = refl
names_listed (BranchConditionalToRegister LinkTarget bo bi false) = refl
names_listed (BranchConditionalToRegister LinkTarget bo bi true) = refl
names_listed (BranchConditionalToRegister CountTarget bo bi false) = refl
names_listed (BranchConditionalToRegister CountTarget bo bi true) = refl
names_listed (ConditionLogical And d a b) = refl
names_listed (ConditionLogical Or d a b) = refl
names_listed (ConditionLogical Xor d a b) = refl
names_listed (ConditionLogical Nand d a b) = refl
names_listed (ConditionLogical Nor d a b) = refl
names_listed (ConditionLogical Equivalent d a b) = refl
names_listed (ConditionLogical AndComplement d a b) = refl
names_listed (ConditionLogical OrComplement d a b) = refl
names_listed InstructionSynchronize = refl
names_listed (Add Plain d a b false false) = refl
names_listed (Add Plain d a b false true) = refl
names_listed (Add Plain d a b true false) = refl
names_listed (Add Plain d a b true true) = refl
names_listed (Add Carrying d a b false false) = refl
names_listed (Add Carrying d a b false true) = refl
names_listed (Add Carrying d a b true false) = refl
names_listed (Add Carrying d a b true true) = refl
names_listed (Add Extended d a b false false) = refl
names_listed (Add Extended d a b false true) = refl
names_listed (Add Extended d a b true false) = refl
names_listed (Add Extended d a b true true) = refl
names_listed (AddExtended ZeroOperand d a false false) = refl
names_listed (AddExtended ZeroOperand d a false true) = refl
names_listed (AddExtended ZeroOperand d a true false) = refl
names_listed (AddExtended ZeroOperand d a true true) = refl
names_listed (AddExtended MinusOne d a false false) = refl
names_listed (AddExtended MinusOne d a false true) = refl
names_listed (AddExtended MinusOne d a true false) = refl
names_listed (AddExtended MinusOne d a true true) = refl
names_listed (SubtractFrom Plain d a b false false) = refl
names_listed (SubtractFrom Plain d a b false true) = refl
names_listed (SubtractFrom Plain d a b true false) = refl
names_listed (SubtractFrom Plain d a b true true) = refl
names_listed (SubtractFrom Carrying d a b false false) = refl
names_listed (SubtractFrom Carrying d a b false true) = refl
names_listed (SubtractFrom Carrying d a b true false) = refl
names_listed (SubtractFrom Carrying d a b true true) = refl
names_listed (SubtractFrom Extended d a b false false) = refl
names_listed (SubtractFrom Extended d a b false true) = refl
names_listed (SubtractFrom Extended d a b true false) = refl
names_listed (SubtractFrom Extended d a b true true) = refl
names_listed (SubtractFromExtended ZeroOperand d a false false) = refl
names_listed (SubtractFromExtended ZeroOperand d a false true) = refl
names_listed (SubtractFromExtended ZeroOperand d a true false) = refl
names_listed (SubtractFromExtended ZeroOperand d a true true) = refl
names_listed (SubtractFromExtended MinusOne d a false false) = refl
names_listed (SubtractFromExtended MinusOne d a false true) = refl
names_listed (SubtractFromExtended MinusOne d a true false) = refl
names_listed (SubtractFromExtended MinusOne d a true true) = refl
names_listed (Negate d a false false) = refl
names_listed (Negate d a false true) = refl
names_listed (Negate d a true false) = refl
names_listed (Negate d a true true) = refl
names_listed (Multiply (MultiplyLow d a b false false)) = refl
names_listed (Multiply (MultiplyLow d a b false true)) = refl
names_listed (Multiply (MultiplyLow d a b true false)) = refl
names_listed (Multiply (MultiplyLow d a b true true)) = refl
names_listed (Multiply (MultiplyHigh true d a b false)) = refl
names_listed (Multiply (MultiplyHigh true d a b true)) = refl
names_listed (Multiply (MultiplyHigh false d a b false)) = refl
names_listed (Multiply (MultiplyHigh false d a b true)) = refl
names_listed (Divide true d a b false false) = refl
names_listed (Divide true d a b false true) = refl
names_listed (Divide true d a b true false) = refl
names_listed (Divide true d a b true true) = refl
names_listed (Divide false d a b false false) = refl
names_listed (Divide false d a b false true) = refl
names_listed (Divide false d a b true false) = refl
names_listed (Divide false d a b true true) = refl
names_listed (Logical And a s b false) = refl
names_listed (Logical And a s b true) = refl
names_listed (Logical Or a s b false) = refl
names_listed (Logical Or a s b true) = refl
names_listed (Logical Xor a s b false) = refl
names_listed (Logical Xor a s b true) = refl
names_listed (Logical Nand a s b false) = refl
names_listed (Logical Nand a s b true) = refl
names_listed (Logical Nor a s b false) = refl
names_listed (Logical Nor a s b true) = refl
names_listed (Logical Equivalent a s b false) = refl
names_listed (Logical Equivalent a s b true) = refl
names_listed (Logical AndComplement a s b false) = refl
names_listed (Logical AndComplement a s b true) = refl
names_listed (Logical OrComplement a s b false) = refl
names_listed (Logical OrComplement a s b true) = refl
names_listed (Unary ExtendSignByte a s false) = refl
names_listed (Unary ExtendSignByte a s true) = refl
names_listed (Unary ExtendSignHalf a s false) = refl
names_listed (Unary ExtendSignHalf a s true) = refl
names_listed (Unary CountLeadingZeros a s false) = refl
names_listed (Unary CountLeadingZeros a s true) = refl
names_listed (Shift Left a s b false) = refl
names_listed (Shift Left a s b true) = refl
names_listed (Shift Right a s b false) = refl
names_listed (Shift Right a s b true) = refl
names_listed (Shift RightAlgebraic a s b false) = refl
names_listed (Shift RightAlgebraic a s b true) = refl
names_listed (ShiftRightAlgebraicImmediate a s sh false) = refl
names_listed (ShiftRightAlgebraicImmediate a s sh true) = refl
names_listed (CompareOrTrap (Compare true field a b)) = refl
names_listed (CompareOrTrap (Compare false field a b)) = refl
names_listed (CompareOrTrap (TrapWord to a b)) = refl
names_listed (LoadIndexed LoadWord false d a b) = refl
names_listed (LoadIndexed LoadWord true d a b) = refl
names_listed (LoadIndexed LoadByte false d a b) = refl
names_listed (LoadIndexed LoadByte true d a b) = refl
names_listed (LoadIndexed LoadHalf false d a b) = refl
names_listed (LoadIndexed LoadHalf true d a b) = refl
names_listed (LoadIndexed HalfAlgebraic false d a b) = refl
names_listed (LoadIndexed HalfAlgebraic true d a b) = refl
names_listed (StoreIndexed StoreWord false s a b) = refl
names_listed (StoreIndexed StoreWord true s a b) = refl
names_listed (StoreIndexed StoreByte false s a b) = refl
names_listed (StoreIndexed StoreByte true s a b) = refl
names_listed (StoreIndexed StoreHalf false s a b) = refl
names_listed (StoreIndexed StoreHalf true s a b) = refl
names_listed (Reversed (LoadReversed ReversedWord d a b)) = refl
names_listed (Reversed (LoadReversed ReversedHalf d a b)) = refl
names_listed (Reversed (StoreReversed ReversedWord s a b)) = refl
names_listed (Reversed (StoreReversed ReversedHalf s a b)) = refl
names_listed (StringImmediate (LoadStringImmediate d a nb)) = refl
names_listed (StringImmediate (StoreStringImmediate s a nb)) = refl
names_listed (StringIndexed (LoadStringIndexed d a b)) = refl
names_listed (StringIndexed (StoreStringIndexed s a b)) = refl
names_listed (MoveCondition (MoveFromConditionRegister d)) = refl
names_listed (MoveCondition (MoveToConditionFields mask s)) = refl
names_listed (MoveXerToConditionField field) = refl
names_listed (MoveSpecial (MoveFromSpecial d Xer)) = refl
names_listed (MoveSpecial (MoveFromSpecial d LinkSpecial)) = refl
names_listed (MoveSpecial (MoveFromSpecial d CountSpecial)) = refl
names_listed (MoveSpecial (MoveToSpecial Xer s)) = refl
names_listed (MoveSpecial (MoveToSpecial LinkSpecial s)) = refl
names_listed (MoveSpecial (MoveToSpecial CountSpecial s)) = refl
names_listed Synchronize = refl
