-- The names of instructions as a finite list (PowerPC 601 RISC Microprocessor User's Manual, chapter 10).
use Rattle.std.specs.Prelude.{ℕ, List, [], ◌∷◌, Bool, true, false, codes, map}
use Rattle.std.specs.List.{list_any}
use Rattle.std.specs.Str.{bytes_eq}
use Rattle.ppc_isa.specs.declared.instruction.CarryUse.TheVariants.{Plain, Carrying, Extended}
use Rattle.ppc_isa.specs.declared.instruction.ExtendedOperand.TheVariants.{Zero as ZeroOperand, MinusOne}
use Rattle.ppc_isa.specs.declared.instruction.ImmediateOp.TheVariants.{Or as ImmediateOr, OrShifted, Xor as ImmediateXor, XorShifted, And as ImmediateAnd, AndShifted}
use Rattle.ppc_isa.specs.declared.instruction.LogicalOp.TheVariants.{And, Or, Xor, Nand, Nor, Equivalent, AndComplement, OrComplement}
use Rattle.ppc_isa.specs.declared.instruction.UnaryOp.TheVariants.{ExtendSignByte, ExtendSignHalf, CountLeadingZeros}
use Rattle.ppc_isa.specs.declared.instruction.ShiftOp.TheVariants.{Left, Right, RightAlgebraic}
use Rattle.ppc_isa.specs.declared.instruction.MaskUse.TheVariants.{Insert, Clear}
use Rattle.ppc_isa.specs.declared.instruction.LoadKind.TheVariants.{Word as LoadWord, Byte as LoadByte, Half as LoadHalf, HalfAlgebraic}
use Rattle.ppc_isa.specs.declared.instruction.StoreKind.TheVariants.{Word as StoreWord, Byte as StoreByte, Half as StoreHalf}
use Rattle.ppc_isa.specs.declared.instruction.ReversedKind.TheVariants.{Word as ReversedWord, Half as ReversedHalf}
use Rattle.ppc_isa.specs.declared.instruction.BranchRegister.TheVariants.{Link as LinkTarget, Count as CountTarget}
use Rattle.ppc_isa.specs.declared.instruction.SpecialRegister.TheVariants.{Xer}
use Rattle.ppc_isa.specs.declared.instruction.InstrPpc.{InstrPpc}
use Rattle.ppc_isa.specs.declared.instruction.InstrPpc.TheVariants.{TrapWordImmediate, MultiplyLowImmediate, SubtractFromImmediateCarrying, CompareImmediate, AddImmediateCarrying, AddImmediate, BranchConditional, Branch, LogicalImmediate, Load, Store, MoveConditionField, BranchConditionalToRegister, ConditionLogical, InstructionSynchronize, Add, AddExtended, SubtractFrom, SubtractFromExtended, Negate, Divide, Logical, Unary, Shift, ShiftRightAlgebraicImmediate, LoadIndexed, StoreIndexed, MoveXerToConditionField, Synchronize, Rotate, Multiple, Multiply, CompareOrTrap, Reversed, StringImmediate, StringIndexed, MoveCondition, MoveSpecial}
use Rattle.ppc_isa.specs.declared.instruction.Rotation.TheVariants.{RotateLeftImmediate, RotateLeft}
use Rattle.ppc_isa.specs.declared.instruction.MultipleAccess.TheVariants.{LoadMultiple, StoreMultiple}
use Rattle.ppc_isa.specs.declared.instruction.Multiplication.TheVariants.{MultiplyLow, MultiplyHigh}
use Rattle.ppc_isa.specs.declared.instruction.Comparison.TheVariants.{Compare, TrapWord}
use Rattle.ppc_isa.specs.declared.instruction.ReversedAccess.TheVariants.{LoadReversed, StoreReversed}
use Rattle.ppc_isa.specs.declared.instruction.StringImmediateAccess.TheVariants.{LoadStringImmediate, StoreStringImmediate}
use Rattle.ppc_isa.specs.declared.instruction.StringIndexedAccess.TheVariants.{LoadStringIndexed, StoreStringIndexed}
use Rattle.ppc_isa.specs.declared.instruction.ConditionMove.TheVariants.{MoveFromConditionRegister, MoveToConditionFields}
use Rattle.ppc_isa.specs.declared.instruction.SpecialMove.TheVariants.{MoveFromSpecial, MoveToSpecial}
use Rattle.ppc_text.specs.Instructions.{name}

-- one instruction of each name, each of them valid
unfoldable pub shapes : List InstrPpc
shapes =
    AddImmediate false 0 0 0
    ∷ AddImmediate true 0 0 0
    ∷ AddImmediateCarrying false 0 0 0
    ∷ AddImmediateCarrying true 0 0 0
    ∷ SubtractFromImmediateCarrying 0 0 0
    ∷ MultiplyLowImmediate 0 0 0
    ∷ CompareImmediate true 0 0 0
    ∷ CompareImmediate false 0 0 0
    ∷ TrapWordImmediate 0 0 0
    ∷ LogicalImmediate ImmediateOr 0 0 0
    ∷ LogicalImmediate OrShifted 0 0 0
    ∷ LogicalImmediate ImmediateXor 0 0 0
    ∷ LogicalImmediate XorShifted 0 0 0
    ∷ LogicalImmediate ImmediateAnd 0 0 0
    ∷ LogicalImmediate AndShifted 0 0 0
    ∷ Rotate (RotateLeftImmediate Insert 0 0 0 0 0 false)
    ∷ Rotate (RotateLeftImmediate Insert 0 0 0 0 0 true)
    ∷ Rotate (RotateLeftImmediate Clear 0 0 0 0 0 false)
    ∷ Rotate (RotateLeftImmediate Clear 0 0 0 0 0 true)
    ∷ Rotate (RotateLeft 0 0 0 0 0 false)
    ∷ Rotate (RotateLeft 0 0 0 0 0 true)
    ∷ BranchConditional 0 0 0 false false
    ∷ BranchConditional 0 0 0 true false
    ∷ BranchConditional 0 0 0 false true
    ∷ BranchConditional 0 0 0 true true
    ∷ Branch 0 false false
    ∷ Branch 0 true false
    ∷ Branch 0 false true
    ∷ Branch 0 true true
    ∷ Load LoadWord false 0 0 0
    ∷ Load LoadWord true 0 1 0
    ∷ Load LoadByte false 0 0 0
    ∷ Load LoadByte true 0 1 0
    ∷ Load LoadHalf false 0 0 0
    ∷ Load LoadHalf true 0 1 0
    ∷ Load HalfAlgebraic false 0 0 0
    ∷ Load HalfAlgebraic true 0 1 0
    ∷ Store StoreWord false 0 0 0
    ∷ Store StoreWord true 0 1 0
    ∷ Store StoreByte false 0 0 0
    ∷ Store StoreByte true 0 1 0
    ∷ Store StoreHalf false 0 0 0
    ∷ Store StoreHalf true 0 1 0
    ∷ Multiple (LoadMultiple 1 0 0)
    ∷ Multiple (StoreMultiple 0 0 0)
    ∷ MoveConditionField 0 0
    ∷ BranchConditionalToRegister LinkTarget 4 0 false
    ∷ BranchConditionalToRegister LinkTarget 4 0 true
    ∷ BranchConditionalToRegister CountTarget 4 0 false
    ∷ BranchConditionalToRegister CountTarget 4 0 true
    ∷ ConditionLogical And 0 0 0
    ∷ ConditionLogical Or 0 0 0
    ∷ ConditionLogical Xor 0 0 0
    ∷ ConditionLogical Nand 0 0 0
    ∷ ConditionLogical Nor 0 0 0
    ∷ ConditionLogical Equivalent 0 0 0
    ∷ ConditionLogical AndComplement 0 0 0
    ∷ ConditionLogical OrComplement 0 0 0
    ∷ InstructionSynchronize
    ∷ Add Plain 0 0 0 false false
    ∷ Add Plain 0 0 0 false true
    ∷ Add Plain 0 0 0 true false
    ∷ Add Plain 0 0 0 true true
    ∷ Add Carrying 0 0 0 false false
    ∷ Add Carrying 0 0 0 false true
    ∷ Add Carrying 0 0 0 true false
    ∷ Add Carrying 0 0 0 true true
    ∷ Add Extended 0 0 0 false false
    ∷ Add Extended 0 0 0 false true
    ∷ Add Extended 0 0 0 true false
    ∷ Add Extended 0 0 0 true true
    ∷ AddExtended ZeroOperand 0 0 false false
    ∷ AddExtended ZeroOperand 0 0 false true
    ∷ AddExtended ZeroOperand 0 0 true false
    ∷ AddExtended ZeroOperand 0 0 true true
    ∷ AddExtended MinusOne 0 0 false false
    ∷ AddExtended MinusOne 0 0 false true
    ∷ AddExtended MinusOne 0 0 true false
    ∷ AddExtended MinusOne 0 0 true true
    ∷ SubtractFrom Plain 0 0 0 false false
    ∷ SubtractFrom Plain 0 0 0 false true
    ∷ SubtractFrom Plain 0 0 0 true false
    ∷ SubtractFrom Plain 0 0 0 true true
    ∷ SubtractFrom Carrying 0 0 0 false false
    ∷ SubtractFrom Carrying 0 0 0 false true
    ∷ SubtractFrom Carrying 0 0 0 true false
    ∷ SubtractFrom Carrying 0 0 0 true true
    ∷ SubtractFrom Extended 0 0 0 false false
    ∷ SubtractFrom Extended 0 0 0 false true
    ∷ SubtractFrom Extended 0 0 0 true false
    ∷ SubtractFrom Extended 0 0 0 true true
    ∷ SubtractFromExtended ZeroOperand 0 0 false false
    ∷ SubtractFromExtended ZeroOperand 0 0 false true
    ∷ SubtractFromExtended ZeroOperand 0 0 true false
    ∷ SubtractFromExtended ZeroOperand 0 0 true true
    ∷ SubtractFromExtended MinusOne 0 0 false false
    ∷ SubtractFromExtended MinusOne 0 0 false true
    ∷ SubtractFromExtended MinusOne 0 0 true false
    ∷ SubtractFromExtended MinusOne 0 0 true true
    ∷ Negate 0 0 false false
    ∷ Negate 0 0 false true
    ∷ Negate 0 0 true false
    ∷ Negate 0 0 true true
    ∷ Multiply (MultiplyLow 0 0 0 false false)
    ∷ Multiply (MultiplyLow 0 0 0 false true)
    ∷ Multiply (MultiplyLow 0 0 0 true false)
    ∷ Multiply (MultiplyLow 0 0 0 true true)
    ∷ Multiply (MultiplyHigh true 0 0 0 false)
    ∷ Multiply (MultiplyHigh true 0 0 0 true)
    ∷ Multiply (MultiplyHigh false 0 0 0 false)
    ∷ Multiply (MultiplyHigh false 0 0 0 true)
    ∷ Divide true 0 0 0 false false
    ∷ Divide true 0 0 0 false true
    ∷ Divide true 0 0 0 true false
    ∷ Divide true 0 0 0 true true
    ∷ Divide false 0 0 0 false false
    ∷ Divide false 0 0 0 false true
    ∷ Divide false 0 0 0 true false
    ∷ Divide false 0 0 0 true true
    ∷ Logical And 0 0 0 false
    ∷ Logical And 0 0 0 true
    ∷ Logical Or 0 0 0 false
    ∷ Logical Or 0 0 0 true
    ∷ Logical Xor 0 0 0 false
    ∷ Logical Xor 0 0 0 true
    ∷ Logical Nand 0 0 0 false
    ∷ Logical Nand 0 0 0 true
    ∷ Logical Nor 0 0 0 false
    ∷ Logical Nor 0 0 0 true
    ∷ Logical Equivalent 0 0 0 false
    ∷ Logical Equivalent 0 0 0 true
    ∷ Logical AndComplement 0 0 0 false
    ∷ Logical AndComplement 0 0 0 true
    ∷ Logical OrComplement 0 0 0 false
    ∷ Logical OrComplement 0 0 0 true
    ∷ Unary ExtendSignByte 0 0 false
    ∷ Unary ExtendSignByte 0 0 true
    ∷ Unary ExtendSignHalf 0 0 false
    ∷ Unary ExtendSignHalf 0 0 true
    ∷ Unary CountLeadingZeros 0 0 false
    ∷ Unary CountLeadingZeros 0 0 true
    ∷ Shift Left 0 0 0 false
    ∷ Shift Left 0 0 0 true
    ∷ Shift Right 0 0 0 false
    ∷ Shift Right 0 0 0 true
    ∷ Shift RightAlgebraic 0 0 0 false
    ∷ Shift RightAlgebraic 0 0 0 true
    ∷ ShiftRightAlgebraicImmediate 0 0 0 false
    ∷ ShiftRightAlgebraicImmediate 0 0 0 true
    ∷ CompareOrTrap (Compare true 0 0 0)
    ∷ CompareOrTrap (Compare false 0 0 0)
    ∷ CompareOrTrap (TrapWord 0 0 0)
    ∷ LoadIndexed LoadWord false 0 0 0
    ∷ LoadIndexed LoadWord true 0 1 0
    ∷ LoadIndexed LoadByte false 0 0 0
    ∷ LoadIndexed LoadByte true 0 1 0
    ∷ LoadIndexed LoadHalf false 0 0 0
    ∷ LoadIndexed LoadHalf true 0 1 0
    ∷ LoadIndexed HalfAlgebraic false 0 0 0
    ∷ LoadIndexed HalfAlgebraic true 0 1 0
    ∷ StoreIndexed StoreWord false 0 0 0
    ∷ StoreIndexed StoreWord true 0 1 0
    ∷ StoreIndexed StoreByte false 0 0 0
    ∷ StoreIndexed StoreByte true 0 1 0
    ∷ StoreIndexed StoreHalf false 0 0 0
    ∷ StoreIndexed StoreHalf true 0 1 0
    ∷ Reversed (LoadReversed ReversedWord 0 0 0)
    ∷ Reversed (LoadReversed ReversedHalf 0 0 0)
    ∷ Reversed (StoreReversed ReversedWord 0 0 0)
    ∷ Reversed (StoreReversed ReversedHalf 0 0 0)
    ∷ StringImmediate (LoadStringImmediate 1 0 4)
    ∷ StringImmediate (StoreStringImmediate 0 0 0)
    ∷ StringIndexed (LoadStringIndexed 0 0 0)
    ∷ StringIndexed (StoreStringIndexed 0 0 0)
    ∷ MoveCondition (MoveFromConditionRegister 0)
    ∷ MoveCondition (MoveToConditionFields 0 0)
    ∷ MoveXerToConditionField 0
    ∷ MoveSpecial (MoveFromSpecial 0 Xer)
    ∷ MoveSpecial (MoveToSpecial Xer 0)
    ∷ Synchronize
    ∷ []

-- the names that texts begin with: of words that stand for no instruction, and of instructions
unfoldable pub names : List (List ℕ)
names = codes ".long" ∷ map name shapes

abbrev pub is_name : List ℕ → Bool
is_name n = list_any (λ m. bytes_eq m n) names
