-- The table and the instructions: each instruction's name has an entry, by which its operands spell its word.
use Rattle.std.proofs.Common.{◌≡◌, ℕ, ◌+◌, ◌%◌, ◌^◌, ◌<◌, inl, inr, true, false, Some, arith, refl, rules}
use Rattle.mix_bits.specs.laws.Names.{no_space}
use Rattle.ppc_isa.specs.declared.instruction.CarryUse.TheVariants.{Plain, Carrying, Extended}
use Rattle.ppc_isa.specs.declared.instruction.ExtendedOperand.TheVariants.{Zero as ZeroOperand, MinusOne}
use Rattle.ppc_isa.specs.declared.instruction.ImmediateOp.TheVariants.{Or as ImmediateOr, OrShifted, Xor as ImmediateXor, XorShifted, And as ImmediateAnd, AndShifted}
use Rattle.ppc_isa.specs.declared.instruction.LogicalOp.TheVariants.{And, Or, Xor, Nand, Nor, Equivalent, AndComplement, OrComplement}
use Rattle.ppc_isa.specs.declared.instruction.UnaryOp.TheVariants.{ExtendSignByte, ExtendSignHalf, CountLeadingZeros}
use Rattle.ppc_isa.specs.declared.instruction.ShiftOp.TheVariants.{Left, Right, RightAlgebraic}
use Rattle.ppc_isa.specs.declared.instruction.MaskUse.TheVariants.{Insert, Clear}
use Rattle.ppc_isa.specs.declared.instruction.LoadKind.TheVariants.{Word as LoadWord, Byte as LoadByte, Half as LoadHalf, HalfAlgebraic}
use Rattle.ppc_isa.specs.declared.instruction.StoreKind.TheVariants.{Word as StoreWord, Byte as StoreByte, Half as StoreHalf}
use Rattle.ppc_isa.specs.declared.instruction.ReversedKind.TheVariants.{Word as ReversedWord, Half as ReversedHalf}
use Rattle.ppc_isa.specs.declared.instruction.BranchRegister.TheVariants.{Link as LinkTarget, Count as CountTarget}
use Rattle.ppc_isa.specs.declared.instruction.SpecialRegister.TheVariants.{Xer, Link as LinkSpecial, Count as CountSpecial}
use Rattle.ppc_isa.specs.declared.instruction.InstrPpc.{InstrPpc}
use Rattle.ppc_isa.specs.declared.instruction.InstrPpc.TheVariants.{TrapWordImmediate, MultiplyLowImmediate, SubtractFromImmediateCarrying, CompareImmediate, AddImmediateCarrying, AddImmediate, BranchConditional, Branch, LogicalImmediate, Load, Store, MoveConditionField, BranchConditionalToRegister, ConditionLogical, InstructionSynchronize, Add, AddExtended, SubtractFrom, SubtractFromExtended, Negate, Divide, Logical, Unary, Shift, ShiftRightAlgebraicImmediate, LoadIndexed, StoreIndexed, MoveXerToConditionField, Synchronize, Rotate, Multiple, Multiply, CompareOrTrap, Reversed, StringImmediate, StringIndexed, MoveCondition, MoveSpecial}
use Rattle.ppc_isa.specs.declared.instruction.Rotation.TheVariants.{RotateLeftImmediate, RotateLeft}
use Rattle.ppc_isa.specs.declared.instruction.MultipleAccess.TheVariants.{LoadMultiple, StoreMultiple}
use Rattle.ppc_isa.specs.declared.instruction.Multiplication.TheVariants.{MultiplyLow, MultiplyHigh}
use Rattle.ppc_isa.specs.declared.instruction.Comparison.TheVariants.{Compare, TrapWord}
use Rattle.ppc_isa.specs.declared.instruction.ReversedAccess.TheVariants.{LoadReversed, StoreReversed}
use Rattle.ppc_isa.specs.declared.instruction.StringImmediateAccess.TheVariants.{LoadStringImmediate, StoreStringImmediate}
use Rattle.ppc_isa.specs.declared.instruction.StringIndexedAccess.TheVariants.{LoadStringIndexed, StoreStringIndexed}
use Rattle.ppc_isa.specs.declared.instruction.ConditionMove.TheVariants.{MoveFromConditionRegister, MoveToConditionFields}
use Rattle.ppc_isa.specs.declared.instruction.SpecialMove.TheVariants.{MoveFromSpecial, MoveToSpecial}
use Rattle.ppc_isa.specs.Valid.{InRange, IsDisplacement}
use Rattle.ppc_isa.specs.Words.{word_of}
use Rattle.ppc_text.specs.Instructions.{name, operands}
use Rattle.asm_ppc.specs.declared.layout.Layout.{Layout}
use Rattle.asm_ppc.specs.Reading.{none}
use Rattle.asm_ppc.specs.inner.Spelling.{is_long, placed}
use Rattle.asm_ppc.specs.inner.Table.{looked_up, table}
use Rattle.asm_ppc.proofs.Texts.{AllSmall, all_taken}

-- an instruction at an address by the entry of its name
pub record Found (i : InstrPpc) (at : ℕ) : Type 0 where
  pub word : ℕ
  pub layout : Layout
  pub row : looked_up (name i) ≡ Some (record { word = word; layout = layout })
  pub is_instruction : is_long layout ≡ false
  pub clear : no_space (name i) ≡ true
  pub sum : (word + placed layout (all_taken (operands i at) none) at) % 4294967296 ≡ word_of i

pub found : (i : InstrPpc) (at : ℕ) → at < 2 ^ 32 → InRange i → Found i at
unfolding looked_up table
found (AddImmediate false d a immediate) at fits v = record { word = _; layout = _; row = refl; is_instruction = refl; clear = refl; sum = omega arith }
found (AddImmediate true d a immediate) at fits v = record { word = _; layout = _; row = refl; is_instruction = refl; clear = refl; sum = omega arith }
found (AddImmediateCarrying false d a immediate) at fits v = record { word = _; layout = _; row = refl; is_instruction = refl; clear = refl; sum = omega arith }
found (AddImmediateCarrying true d a immediate) at fits v = record { word = _; layout = _; row = refl; is_instruction = refl; clear = refl; sum = omega arith }
found (SubtractFromImmediateCarrying d a immediate) at fits v = record { word = _; layout = _; row = refl; is_instruction = refl; clear = refl; sum = omega arith }
found (MultiplyLowImmediate d a immediate) at fits v = record { word = _; layout = _; row = refl; is_instruction = refl; clear = refl; sum = omega arith }
found (CompareImmediate true field a immediate) at fits v = record { word = _; layout = _; row = refl; is_instruction = refl; clear = refl; sum = omega arith }
found (CompareImmediate false field a immediate) at fits v = record { word = _; layout = _; row = refl; is_instruction = refl; clear = refl; sum = omega arith }
found (TrapWordImmediate to a immediate) at fits v = record { word = _; layout = _; row = refl; is_instruction = refl; clear = refl; sum = omega arith }
found (LogicalImmediate ImmediateOr a s immediate) at fits v = record { word = _; layout = _; row = refl; is_instruction = refl; clear = refl; sum = omega arith }
found (LogicalImmediate OrShifted a s immediate) at fits v = record { word = _; layout = _; row = refl; is_instruction = refl; clear = refl; sum = omega arith }
found (LogicalImmediate ImmediateXor a s immediate) at fits v = record { word = _; layout = _; row = refl; is_instruction = refl; clear = refl; sum = omega arith }
found (LogicalImmediate XorShifted a s immediate) at fits v = record { word = _; layout = _; row = refl; is_instruction = refl; clear = refl; sum = omega arith }
found (LogicalImmediate ImmediateAnd a s immediate) at fits v = record { word = _; layout = _; row = refl; is_instruction = refl; clear = refl; sum = omega arith }
found (LogicalImmediate AndShifted a s immediate) at fits v = record { word = _; layout = _; row = refl; is_instruction = refl; clear = refl; sum = omega arith }
found (Rotate (RotateLeftImmediate Insert a s sh mb me false)) at fits v = record { word = _; layout = _; row = refl; is_instruction = refl; clear = refl; sum = omega arith }
found (Rotate (RotateLeftImmediate Insert a s sh mb me true)) at fits v = record { word = _; layout = _; row = refl; is_instruction = refl; clear = refl; sum = omega arith }
found (Rotate (RotateLeftImmediate Clear a s sh mb me false)) at fits v = record { word = _; layout = _; row = refl; is_instruction = refl; clear = refl; sum = omega arith }
found (Rotate (RotateLeftImmediate Clear a s sh mb me true)) at fits v = record { word = _; layout = _; row = refl; is_instruction = refl; clear = refl; sum = omega arith }
found (Rotate (RotateLeft a s b mb me false)) at fits v = record { word = _; layout = _; row = refl; is_instruction = refl; clear = refl; sum = omega arith }
found (Rotate (RotateLeft a s b mb me true)) at fits v = record { word = _; layout = _; row = refl; is_instruction = refl; clear = refl; sum = omega arith }
found (BranchConditional bo bi displacement false false) at fits v = record { word = _; layout = _; row = refl; is_instruction = refl; clear = refl; sum = omega arith }
found (BranchConditional bo bi displacement true false) at fits v = record { word = _; layout = _; row = refl; is_instruction = refl; clear = refl; sum = omega arith }
found (BranchConditional bo bi displacement false true) at fits v = record { word = _; layout = _; row = refl; is_instruction = refl; clear = refl; sum = omega arith }
found (BranchConditional bo bi displacement true true) at fits v = record { word = _; layout = _; row = refl; is_instruction = refl; clear = refl; sum = omega arith }
found (Branch displacement false false) at fits v = record { word = _; layout = _; row = refl; is_instruction = refl; clear = refl; sum = omega arith }
found (Branch displacement true false) at fits v = record { word = _; layout = _; row = refl; is_instruction = refl; clear = refl; sum = omega arith }
found (Branch displacement false true) at fits v = record { word = _; layout = _; row = refl; is_instruction = refl; clear = refl; sum = omega arith }
found (Branch displacement true true) at fits v = record { word = _; layout = _; row = refl; is_instruction = refl; clear = refl; sum = omega arith }
found (Load LoadWord false d a offset) at fits v = record { word = _; layout = _; row = refl; is_instruction = refl; clear = refl; sum = omega arith }
found (Load LoadWord true d a offset) at fits v = record { word = _; layout = _; row = refl; is_instruction = refl; clear = refl; sum = omega arith }
found (Load LoadByte false d a offset) at fits v = record { word = _; layout = _; row = refl; is_instruction = refl; clear = refl; sum = omega arith }
found (Load LoadByte true d a offset) at fits v = record { word = _; layout = _; row = refl; is_instruction = refl; clear = refl; sum = omega arith }
found (Load LoadHalf false d a offset) at fits v = record { word = _; layout = _; row = refl; is_instruction = refl; clear = refl; sum = omega arith }
found (Load LoadHalf true d a offset) at fits v = record { word = _; layout = _; row = refl; is_instruction = refl; clear = refl; sum = omega arith }
found (Load HalfAlgebraic false d a offset) at fits v = record { word = _; layout = _; row = refl; is_instruction = refl; clear = refl; sum = omega arith }
found (Load HalfAlgebraic true d a offset) at fits v = record { word = _; layout = _; row = refl; is_instruction = refl; clear = refl; sum = omega arith }
found (Store StoreWord false s a offset) at fits v = record { word = _; layout = _; row = refl; is_instruction = refl; clear = refl; sum = omega arith }
found (Store StoreWord true s a offset) at fits v = record { word = _; layout = _; row = refl; is_instruction = refl; clear = refl; sum = omega arith }
found (Store StoreByte false s a offset) at fits v = record { word = _; layout = _; row = refl; is_instruction = refl; clear = refl; sum = omega arith }
found (Store StoreByte true s a offset) at fits v = record { word = _; layout = _; row = refl; is_instruction = refl; clear = refl; sum = omega arith }
found (Store StoreHalf false s a offset) at fits v = record { word = _; layout = _; row = refl; is_instruction = refl; clear = refl; sum = omega arith }
found (Store StoreHalf true s a offset) at fits v = record { word = _; layout = _; row = refl; is_instruction = refl; clear = refl; sum = omega arith }
found (Multiple (LoadMultiple d a offset)) at fits v = record { word = _; layout = _; row = refl; is_instruction = refl; clear = refl; sum = omega arith }
found (Multiple (StoreMultiple s a offset)) at fits v = record { word = _; layout = _; row = refl; is_instruction = refl; clear = refl; sum = omega arith }
found (MoveConditionField field from) at fits v = record { word = _; layout = _; row = refl; is_instruction = refl; clear = refl; sum = omega arith }
found (BranchConditionalToRegister LinkTarget bo bi false) at fits v = record { word = _; layout = _; row = refl; is_instruction = refl; clear = refl; sum = omega arith }
found (BranchConditionalToRegister LinkTarget bo bi true) at fits v = record { word = _; layout = _; row = refl; is_instruction = refl; clear = refl; sum = omega arith }
found (BranchConditionalToRegister CountTarget bo bi false) at fits v = record { word = _; layout = _; row = refl; is_instruction = refl; clear = refl; sum = omega arith }
found (BranchConditionalToRegister CountTarget bo bi true) at fits v = record { word = _; layout = _; row = refl; is_instruction = refl; clear = refl; sum = omega arith }
found (ConditionLogical And d a b) at fits v = record { word = _; layout = _; row = refl; is_instruction = refl; clear = refl; sum = omega arith }
found (ConditionLogical Or d a b) at fits v = record { word = _; layout = _; row = refl; is_instruction = refl; clear = refl; sum = omega arith }
found (ConditionLogical Xor d a b) at fits v = record { word = _; layout = _; row = refl; is_instruction = refl; clear = refl; sum = omega arith }
found (ConditionLogical Nand d a b) at fits v = record { word = _; layout = _; row = refl; is_instruction = refl; clear = refl; sum = omega arith }
found (ConditionLogical Nor d a b) at fits v = record { word = _; layout = _; row = refl; is_instruction = refl; clear = refl; sum = omega arith }
found (ConditionLogical Equivalent d a b) at fits v = record { word = _; layout = _; row = refl; is_instruction = refl; clear = refl; sum = omega arith }
found (ConditionLogical AndComplement d a b) at fits v = record { word = _; layout = _; row = refl; is_instruction = refl; clear = refl; sum = omega arith }
found (ConditionLogical OrComplement d a b) at fits v = record { word = _; layout = _; row = refl; is_instruction = refl; clear = refl; sum = omega arith }
found InstructionSynchronize at fits v = record { word = _; layout = _; row = refl; is_instruction = refl; clear = refl; sum = omega arith }
found (Add Plain d a b false false) at fits v = record { word = _; layout = _; row = refl; is_instruction = refl; clear = refl; sum = omega arith }
found (Add Plain d a b false true) at fits v = record { word = _; layout = _; row = refl; is_instruction = refl; clear = refl; sum = omega arith }
found (Add Plain d a b true false) at fits v = record { word = _; layout = _; row = refl; is_instruction = refl; clear = refl; sum = omega arith }
found (Add Plain d a b true true) at fits v = record { word = _; layout = _; row = refl; is_instruction = refl; clear = refl; sum = omega arith }
found (Add Carrying d a b false false) at fits v = record { word = _; layout = _; row = refl; is_instruction = refl; clear = refl; sum = omega arith }
found (Add Carrying d a b false true) at fits v = record { word = _; layout = _; row = refl; is_instruction = refl; clear = refl; sum = omega arith }
found (Add Carrying d a b true false) at fits v = record { word = _; layout = _; row = refl; is_instruction = refl; clear = refl; sum = omega arith }
found (Add Carrying d a b true true) at fits v = record { word = _; layout = _; row = refl; is_instruction = refl; clear = refl; sum = omega arith }
found (Add Extended d a b false false) at fits v = record { word = _; layout = _; row = refl; is_instruction = refl; clear = refl; sum = omega arith }
found (Add Extended d a b false true) at fits v = record { word = _; layout = _; row = refl; is_instruction = refl; clear = refl; sum = omega arith }
found (Add Extended d a b true false) at fits v = record { word = _; layout = _; row = refl; is_instruction = refl; clear = refl; sum = omega arith }
found (Add Extended d a b true true) at fits v = record { word = _; layout = _; row = refl; is_instruction = refl; clear = refl; sum = omega arith }
found (AddExtended ZeroOperand d a false false) at fits v = record { word = _; layout = _; row = refl; is_instruction = refl; clear = refl; sum = omega arith }
found (AddExtended ZeroOperand d a false true) at fits v = record { word = _; layout = _; row = refl; is_instruction = refl; clear = refl; sum = omega arith }
found (AddExtended ZeroOperand d a true false) at fits v = record { word = _; layout = _; row = refl; is_instruction = refl; clear = refl; sum = omega arith }
found (AddExtended ZeroOperand d a true true) at fits v = record { word = _; layout = _; row = refl; is_instruction = refl; clear = refl; sum = omega arith }
found (AddExtended MinusOne d a false false) at fits v = record { word = _; layout = _; row = refl; is_instruction = refl; clear = refl; sum = omega arith }
found (AddExtended MinusOne d a false true) at fits v = record { word = _; layout = _; row = refl; is_instruction = refl; clear = refl; sum = omega arith }
found (AddExtended MinusOne d a true false) at fits v = record { word = _; layout = _; row = refl; is_instruction = refl; clear = refl; sum = omega arith }
found (AddExtended MinusOne d a true true) at fits v = record { word = _; layout = _; row = refl; is_instruction = refl; clear = refl; sum = omega arith }
found (SubtractFrom Plain d a b false false) at fits v = record { word = _; layout = _; row = refl; is_instruction = refl; clear = refl; sum = omega arith }
found (SubtractFrom Plain d a b false true) at fits v = record { word = _; layout = _; row = refl; is_instruction = refl; clear = refl; sum = omega arith }
found (SubtractFrom Plain d a b true false) at fits v = record { word = _; layout = _; row = refl; is_instruction = refl; clear = refl; sum = omega arith }
found (SubtractFrom Plain d a b true true) at fits v = record { word = _; layout = _; row = refl; is_instruction = refl; clear = refl; sum = omega arith }
found (SubtractFrom Carrying d a b false false) at fits v = record { word = _; layout = _; row = refl; is_instruction = refl; clear = refl; sum = omega arith }
found (SubtractFrom Carrying d a b false true) at fits v = record { word = _; layout = _; row = refl; is_instruction = refl; clear = refl; sum = omega arith }
found (SubtractFrom Carrying d a b true false) at fits v = record { word = _; layout = _; row = refl; is_instruction = refl; clear = refl; sum = omega arith }
found (SubtractFrom Carrying d a b true true) at fits v = record { word = _; layout = _; row = refl; is_instruction = refl; clear = refl; sum = omega arith }
found (SubtractFrom Extended d a b false false) at fits v = record { word = _; layout = _; row = refl; is_instruction = refl; clear = refl; sum = omega arith }
found (SubtractFrom Extended d a b false true) at fits v = record { word = _; layout = _; row = refl; is_instruction = refl; clear = refl; sum = omega arith }
found (SubtractFrom Extended d a b true false) at fits v = record { word = _; layout = _; row = refl; is_instruction = refl; clear = refl; sum = omega arith }
found (SubtractFrom Extended d a b true true) at fits v = record { word = _; layout = _; row = refl; is_instruction = refl; clear = refl; sum = omega arith }
found (SubtractFromExtended ZeroOperand d a false false) at fits v = record { word = _; layout = _; row = refl; is_instruction = refl; clear = refl; sum = omega arith }
found (SubtractFromExtended ZeroOperand d a false true) at fits v = record { word = _; layout = _; row = refl; is_instruction = refl; clear = refl; sum = omega arith }
found (SubtractFromExtended ZeroOperand d a true false) at fits v = record { word = _; layout = _; row = refl; is_instruction = refl; clear = refl; sum = omega arith }
found (SubtractFromExtended ZeroOperand d a true true) at fits v = record { word = _; layout = _; row = refl; is_instruction = refl; clear = refl; sum = omega arith }
found (SubtractFromExtended MinusOne d a false false) at fits v = record { word = _; layout = _; row = refl; is_instruction = refl; clear = refl; sum = omega arith }
found (SubtractFromExtended MinusOne d a false true) at fits v = record { word = _; layout = _; row = refl; is_instruction = refl; clear = refl; sum = omega arith }
found (SubtractFromExtended MinusOne d a true false) at fits v = record { word = _; layout = _; row = refl; is_instruction = refl; clear = refl; sum = omega arith }
found (SubtractFromExtended MinusOne d a true true) at fits v = record { word = _; layout = _; row = refl; is_instruction = refl; clear = refl; sum = omega arith }
found (Negate d a false false) at fits v = record { word = _; layout = _; row = refl; is_instruction = refl; clear = refl; sum = omega arith }
found (Negate d a false true) at fits v = record { word = _; layout = _; row = refl; is_instruction = refl; clear = refl; sum = omega arith }
found (Negate d a true false) at fits v = record { word = _; layout = _; row = refl; is_instruction = refl; clear = refl; sum = omega arith }
found (Negate d a true true) at fits v = record { word = _; layout = _; row = refl; is_instruction = refl; clear = refl; sum = omega arith }
found (Multiply (MultiplyLow d a b false false)) at fits v = record { word = _; layout = _; row = refl; is_instruction = refl; clear = refl; sum = omega arith }
found (Multiply (MultiplyLow d a b false true)) at fits v = record { word = _; layout = _; row = refl; is_instruction = refl; clear = refl; sum = omega arith }
found (Multiply (MultiplyLow d a b true false)) at fits v = record { word = _; layout = _; row = refl; is_instruction = refl; clear = refl; sum = omega arith }
found (Multiply (MultiplyLow d a b true true)) at fits v = record { word = _; layout = _; row = refl; is_instruction = refl; clear = refl; sum = omega arith }
found (Multiply (MultiplyHigh true d a b false)) at fits v = record { word = _; layout = _; row = refl; is_instruction = refl; clear = refl; sum = omega arith }
found (Multiply (MultiplyHigh true d a b true)) at fits v = record { word = _; layout = _; row = refl; is_instruction = refl; clear = refl; sum = omega arith }
found (Multiply (MultiplyHigh false d a b false)) at fits v = record { word = _; layout = _; row = refl; is_instruction = refl; clear = refl; sum = omega arith }
found (Multiply (MultiplyHigh false d a b true)) at fits v = record { word = _; layout = _; row = refl; is_instruction = refl; clear = refl; sum = omega arith }
found (Divide true d a b false false) at fits v = record { word = _; layout = _; row = refl; is_instruction = refl; clear = refl; sum = omega arith }
found (Divide true d a b false true) at fits v = record { word = _; layout = _; row = refl; is_instruction = refl; clear = refl; sum = omega arith }
found (Divide true d a b true false) at fits v = record { word = _; layout = _; row = refl; is_instruction = refl; clear = refl; sum = omega arith }
found (Divide true d a b true true) at fits v = record { word = _; layout = _; row = refl; is_instruction = refl; clear = refl; sum = omega arith }
found (Divide false d a b false false) at fits v = record { word = _; layout = _; row = refl; is_instruction = refl; clear = refl; sum = omega arith }
found (Divide false d a b false true) at fits v = record { word = _; layout = _; row = refl; is_instruction = refl; clear = refl; sum = omega arith }
found (Divide false d a b true false) at fits v = record { word = _; layout = _; row = refl; is_instruction = refl; clear = refl; sum = omega arith }
found (Divide false d a b true true) at fits v = record { word = _; layout = _; row = refl; is_instruction = refl; clear = refl; sum = omega arith }
found (Logical And a s b false) at fits v = record { word = _; layout = _; row = refl; is_instruction = refl; clear = refl; sum = omega arith }
found (Logical And a s b true) at fits v = record { word = _; layout = _; row = refl; is_instruction = refl; clear = refl; sum = omega arith }
found (Logical Or a s b false) at fits v = record { word = _; layout = _; row = refl; is_instruction = refl; clear = refl; sum = omega arith }
found (Logical Or a s b true) at fits v = record { word = _; layout = _; row = refl; is_instruction = refl; clear = refl; sum = omega arith }
found (Logical Xor a s b false) at fits v = record { word = _; layout = _; row = refl; is_instruction = refl; clear = refl; sum = omega arith }
found (Logical Xor a s b true) at fits v = record { word = _; layout = _; row = refl; is_instruction = refl; clear = refl; sum = omega arith }
found (Logical Nand a s b false) at fits v = record { word = _; layout = _; row = refl; is_instruction = refl; clear = refl; sum = omega arith }
found (Logical Nand a s b true) at fits v = record { word = _; layout = _; row = refl; is_instruction = refl; clear = refl; sum = omega arith }
found (Logical Nor a s b false) at fits v = record { word = _; layout = _; row = refl; is_instruction = refl; clear = refl; sum = omega arith }
found (Logical Nor a s b true) at fits v = record { word = _; layout = _; row = refl; is_instruction = refl; clear = refl; sum = omega arith }
found (Logical Equivalent a s b false) at fits v = record { word = _; layout = _; row = refl; is_instruction = refl; clear = refl; sum = omega arith }
found (Logical Equivalent a s b true) at fits v = record { word = _; layout = _; row = refl; is_instruction = refl; clear = refl; sum = omega arith }
found (Logical AndComplement a s b false) at fits v = record { word = _; layout = _; row = refl; is_instruction = refl; clear = refl; sum = omega arith }
found (Logical AndComplement a s b true) at fits v = record { word = _; layout = _; row = refl; is_instruction = refl; clear = refl; sum = omega arith }
found (Logical OrComplement a s b false) at fits v = record { word = _; layout = _; row = refl; is_instruction = refl; clear = refl; sum = omega arith }
found (Logical OrComplement a s b true) at fits v = record { word = _; layout = _; row = refl; is_instruction = refl; clear = refl; sum = omega arith }
found (Unary ExtendSignByte a s false) at fits v = record { word = _; layout = _; row = refl; is_instruction = refl; clear = refl; sum = omega arith }
found (Unary ExtendSignByte a s true) at fits v = record { word = _; layout = _; row = refl; is_instruction = refl; clear = refl; sum = omega arith }
found (Unary ExtendSignHalf a s false) at fits v = record { word = _; layout = _; row = refl; is_instruction = refl; clear = refl; sum = omega arith }
found (Unary ExtendSignHalf a s true) at fits v = record { word = _; layout = _; row = refl; is_instruction = refl; clear = refl; sum = omega arith }
found (Unary CountLeadingZeros a s false) at fits v = record { word = _; layout = _; row = refl; is_instruction = refl; clear = refl; sum = omega arith }
found (Unary CountLeadingZeros a s true) at fits v = record { word = _; layout = _; row = refl; is_instruction = refl; clear = refl; sum = omega arith }
found (Shift Left a s b false) at fits v = record { word = _; layout = _; row = refl; is_instruction = refl; clear = refl; sum = omega arith }
found (Shift Left a s b true) at fits v = record { word = _; layout = _; row = refl; is_instruction = refl; clear = refl; sum = omega arith }
found (Shift Right a s b false) at fits v = record { word = _; layout = _; row = refl; is_instruction = refl; clear = refl; sum = omega arith }
found (Shift Right a s b true) at fits v = record { word = _; layout = _; row = refl; is_instruction = refl; clear = refl; sum = omega arith }
found (Shift RightAlgebraic a s b false) at fits v = record { word = _; layout = _; row = refl; is_instruction = refl; clear = refl; sum = omega arith }
found (Shift RightAlgebraic a s b true) at fits v = record { word = _; layout = _; row = refl; is_instruction = refl; clear = refl; sum = omega arith }
found (ShiftRightAlgebraicImmediate a s sh false) at fits v = record { word = _; layout = _; row = refl; is_instruction = refl; clear = refl; sum = omega arith }
found (ShiftRightAlgebraicImmediate a s sh true) at fits v = record { word = _; layout = _; row = refl; is_instruction = refl; clear = refl; sum = omega arith }
found (CompareOrTrap (Compare true field a b)) at fits v = record { word = _; layout = _; row = refl; is_instruction = refl; clear = refl; sum = omega arith }
found (CompareOrTrap (Compare false field a b)) at fits v = record { word = _; layout = _; row = refl; is_instruction = refl; clear = refl; sum = omega arith }
found (CompareOrTrap (TrapWord to a b)) at fits v = record { word = _; layout = _; row = refl; is_instruction = refl; clear = refl; sum = omega arith }
found (LoadIndexed LoadWord false d a b) at fits v = record { word = _; layout = _; row = refl; is_instruction = refl; clear = refl; sum = omega arith }
found (LoadIndexed LoadWord true d a b) at fits v = record { word = _; layout = _; row = refl; is_instruction = refl; clear = refl; sum = omega arith }
found (LoadIndexed LoadByte false d a b) at fits v = record { word = _; layout = _; row = refl; is_instruction = refl; clear = refl; sum = omega arith }
found (LoadIndexed LoadByte true d a b) at fits v = record { word = _; layout = _; row = refl; is_instruction = refl; clear = refl; sum = omega arith }
found (LoadIndexed LoadHalf false d a b) at fits v = record { word = _; layout = _; row = refl; is_instruction = refl; clear = refl; sum = omega arith }
found (LoadIndexed LoadHalf true d a b) at fits v = record { word = _; layout = _; row = refl; is_instruction = refl; clear = refl; sum = omega arith }
found (LoadIndexed HalfAlgebraic false d a b) at fits v = record { word = _; layout = _; row = refl; is_instruction = refl; clear = refl; sum = omega arith }
found (LoadIndexed HalfAlgebraic true d a b) at fits v = record { word = _; layout = _; row = refl; is_instruction = refl; clear = refl; sum = omega arith }
found (StoreIndexed StoreWord false s a b) at fits v = record { word = _; layout = _; row = refl; is_instruction = refl; clear = refl; sum = omega arith }
found (StoreIndexed StoreWord true s a b) at fits v = record { word = _; layout = _; row = refl; is_instruction = refl; clear = refl; sum = omega arith }
found (StoreIndexed StoreByte false s a b) at fits v = record { word = _; layout = _; row = refl; is_instruction = refl; clear = refl; sum = omega arith }
found (StoreIndexed StoreByte true s a b) at fits v = record { word = _; layout = _; row = refl; is_instruction = refl; clear = refl; sum = omega arith }
found (StoreIndexed StoreHalf false s a b) at fits v = record { word = _; layout = _; row = refl; is_instruction = refl; clear = refl; sum = omega arith }
found (StoreIndexed StoreHalf true s a b) at fits v = record { word = _; layout = _; row = refl; is_instruction = refl; clear = refl; sum = omega arith }
found (Reversed (LoadReversed ReversedWord d a b)) at fits v = record { word = _; layout = _; row = refl; is_instruction = refl; clear = refl; sum = omega arith }
found (Reversed (LoadReversed ReversedHalf d a b)) at fits v = record { word = _; layout = _; row = refl; is_instruction = refl; clear = refl; sum = omega arith }
found (Reversed (StoreReversed ReversedWord s a b)) at fits v = record { word = _; layout = _; row = refl; is_instruction = refl; clear = refl; sum = omega arith }
found (Reversed (StoreReversed ReversedHalf s a b)) at fits v = record { word = _; layout = _; row = refl; is_instruction = refl; clear = refl; sum = omega arith }
found (StringImmediate (LoadStringImmediate d a nb)) at fits v = record { word = _; layout = _; row = refl; is_instruction = refl; clear = refl; sum = omega arith }
found (StringImmediate (StoreStringImmediate s a nb)) at fits v = record { word = _; layout = _; row = refl; is_instruction = refl; clear = refl; sum = omega arith }
found (StringIndexed (LoadStringIndexed d a b)) at fits v = record { word = _; layout = _; row = refl; is_instruction = refl; clear = refl; sum = omega arith }
found (StringIndexed (StoreStringIndexed s a b)) at fits v = record { word = _; layout = _; row = refl; is_instruction = refl; clear = refl; sum = omega arith }
found (MoveCondition (MoveFromConditionRegister d)) at fits v = record { word = _; layout = _; row = refl; is_instruction = refl; clear = refl; sum = omega arith }
found (MoveCondition (MoveToConditionFields mask s)) at fits v = record { word = _; layout = _; row = refl; is_instruction = refl; clear = refl; sum = omega arith }
found (MoveXerToConditionField field) at fits v = record { word = _; layout = _; row = refl; is_instruction = refl; clear = refl; sum = omega arith }
found (MoveSpecial (MoveFromSpecial d Xer)) at fits v = record { word = _; layout = _; row = refl; is_instruction = refl; clear = refl; sum = omega arith }
found (MoveSpecial (MoveFromSpecial d LinkSpecial)) at fits v = record { word = _; layout = _; row = refl; is_instruction = refl; clear = refl; sum = omega arith }
found (MoveSpecial (MoveFromSpecial d CountSpecial)) at fits v = record { word = _; layout = _; row = refl; is_instruction = refl; clear = refl; sum = omega arith }
found (MoveSpecial (MoveToSpecial Xer s)) at fits v = record { word = _; layout = _; row = refl; is_instruction = refl; clear = refl; sum = omega arith }
found (MoveSpecial (MoveToSpecial LinkSpecial s)) at fits v = record { word = _; layout = _; row = refl; is_instruction = refl; clear = refl; sum = omega arith }
found (MoveSpecial (MoveToSpecial CountSpecial s)) at fits v = record { word = _; layout = _; row = refl; is_instruction = refl; clear = refl; sum = omega arith }
found Synchronize at fits v = record { word = _; layout = _; row = refl; is_instruction = refl; clear = refl; sum = omega arith }

-- a displacement is a pattern of 32 bits
pattern_16 : (n : ℕ) → IsDisplacement 16 n → n < 2 ^ 32
pattern_16 n d = elim d.1 [ inl low ↦ omega (arith, low) | inr high ↦ high.1 ]

pattern_26 : (n : ℕ) → IsDisplacement 26 n → n < 2 ^ 32
pattern_26 n d = elim d.1 [ inl low ↦ omega (arith, low) | inr high ↦ high.1 ]

-- an instruction's operands fit what is read
pub fit : (i : InstrPpc) (at : ℕ) → InRange i → AllSmall (operands i at)
fit (CompareImmediate true field a immediate) at v = search rules
fit (CompareImmediate false field a immediate) at v = search rules
fit (BranchConditional bo bi displacement true lk) at v = (omega (arith, v.0), (omega (arith, v.1), (pattern_16 displacement v.2, tt)))
fit (BranchConditional bo bi displacement false lk) at v = (omega (arith, v.0), (omega (arith, v.1), (omega arith, tt)))
fit (Branch displacement true lk) at v = (pattern_26 displacement v, tt)
fit (Branch displacement false lk) at v = (omega arith, tt)
fit (MoveSpecial (MoveFromSpecial d Xer)) at v = search rules
fit (MoveSpecial (MoveFromSpecial d LinkSpecial)) at v = search rules
fit (MoveSpecial (MoveFromSpecial d CountSpecial)) at v = search rules
fit (MoveSpecial (MoveToSpecial Xer s)) at v = search rules
fit (MoveSpecial (MoveToSpecial LinkSpecial s)) at v = search rules
fit (MoveSpecial (MoveToSpecial CountSpecial s)) at v = search rules
fit (TrapWordImmediate to a immediate) at v = search rules
fit (MultiplyLowImmediate d a immediate) at v = search rules
fit (SubtractFromImmediateCarrying d a immediate) at v = search rules
fit (AddImmediateCarrying rc d a immediate) at v = search rules
fit (AddImmediate shifted d a immediate) at v = search rules
fit (Rotate (RotateLeftImmediate outside a s sh mb me rc)) at v = search rules
fit (Rotate (RotateLeft a s b mb me rc)) at v = search rules
fit (LogicalImmediate op a s immediate) at v = search rules
fit (Load kind update d a offset) at v = search rules
fit (Store kind update s a offset) at v = search rules
fit (Multiple (LoadMultiple d a offset)) at v = search rules
fit (Multiple (StoreMultiple s a offset)) at v = search rules
fit (MoveConditionField field from) at v = search rules
fit (BranchConditionalToRegister register bo bi lk) at v = search rules
fit (ConditionLogical op d a b) at v = search rules
fit InstructionSynchronize at v = search rules
fit (Add carry d a b oe rc) at v = search rules
fit (AddExtended operand d a oe rc) at v = search rules
fit (SubtractFrom carry d a b oe rc) at v = search rules
fit (SubtractFromExtended operand d a oe rc) at v = search rules
fit (Negate d a oe rc) at v = search rules
fit (Multiply (MultiplyLow d a b oe rc)) at v = search rules
fit (Multiply (MultiplyHigh signed d a b rc)) at v = search rules
fit (Divide signed d a b oe rc) at v = search rules
fit (Logical op a s b rc) at v = search rules
fit (Unary op a s rc) at v = search rules
fit (Shift op a s b rc) at v = search rules
fit (ShiftRightAlgebraicImmediate a s sh rc) at v = search rules
fit (CompareOrTrap (Compare signed field a b)) at v = search rules
fit (CompareOrTrap (TrapWord to a b)) at v = search rules
fit (LoadIndexed kind update d a b) at v = search rules
fit (StoreIndexed kind update s a b) at v = search rules
fit (Reversed (LoadReversed kind d a b)) at v = search rules
fit (Reversed (StoreReversed kind s a b)) at v = search rules
fit (StringImmediate (LoadStringImmediate d a nb)) at v = search rules
fit (StringImmediate (StoreStringImmediate s a nb)) at v = search rules
fit (StringIndexed (LoadStringIndexed d a b)) at v = search rules
fit (StringIndexed (StoreStringIndexed s a b)) at v = search rules
fit (MoveCondition (MoveFromConditionRegister d)) at v = search rules
fit (MoveCondition (MoveToConditionFields mask s)) at v = search rules
fit (MoveXerToConditionField field) at v = search rules
fit Synchronize at v = search rules
