-- Which values of the type of instructions are instructions: fields in range, and no invalid form
-- (PowerPC 601 RISC Microprocessor User's Manual, chapter 10).
use Rattle.std.specs.Prelude.{ℕ, ◌≡◌, ◌+◌, ◌-◌, ◌/◌, ◌%◌, ◌^◌, ◌<◌, ◌≤◌, ◌⊎◌, Bool, true, not, ◌&&◌, ◌==◌, nat_lt}
use Rattle.std.specs.List.{list_any}
use Rattle.ppc_isa.specs.declared.instruction.BranchRegister.TheVariants.{Count as CountTarget}
use Rattle.ppc_isa.specs.declared.instruction.InstrPpc.{InstrPpc}
use Rattle.ppc_isa.specs.declared.instruction.InstrPpc.TheVariants.{TrapWordImmediate, MultiplyLowImmediate, SubtractFromImmediateCarrying, CompareImmediate, AddImmediateCarrying, AddImmediate, BranchConditional, Branch, LogicalImmediate, Load, Store, MoveConditionField, BranchConditionalToRegister, ConditionLogical, InstructionSynchronize, Add, AddExtended, SubtractFrom, SubtractFromExtended, Negate, Divide, Logical, Unary, Shift, ShiftRightAlgebraicImmediate, LoadIndexed, StoreIndexed, MoveXerToConditionField, Synchronize, Rotate, Multiple, Multiply, CompareOrTrap, Reversed, StringImmediate, StringIndexed, MoveCondition, MoveSpecial}
use Rattle.ppc_isa.specs.declared.instruction.Rotation.TheVariants.{RotateLeftImmediate, RotateLeft}
use Rattle.ppc_isa.specs.declared.instruction.MultipleAccess.TheVariants.{LoadMultiple, StoreMultiple}
use Rattle.ppc_isa.specs.declared.instruction.Multiplication.TheVariants.{MultiplyLow, MultiplyHigh}
use Rattle.ppc_isa.specs.declared.instruction.Comparison.TheVariants.{Compare, TrapWord}
use Rattle.ppc_isa.specs.declared.instruction.ReversedAccess.TheVariants.{LoadReversed, StoreReversed}
use Rattle.ppc_isa.specs.declared.instruction.StringImmediateAccess.TheVariants.{LoadStringImmediate, StoreStringImmediate}
use Rattle.ppc_isa.specs.declared.instruction.StringIndexedAccess.TheVariants.{LoadStringIndexed, StoreStringIndexed}
use Rattle.ppc_isa.specs.declared.instruction.ConditionMove.TheVariants.{MoveFromConditionRegister, MoveToConditionFields}
use Rattle.ppc_isa.specs.declared.instruction.SpecialMove.TheVariants.{MoveFromSpecial, MoveToSpecial}
use Rattle.ppc_isa.specs.Operands.{is_base, registers_from, string_registers}
use Rattle.ppc_isa.specs.Words.{word_of}

-- a signed number of `bits` bits that is a multiple of four, as a pattern of 32 bits
abbrev pub IsDisplacement : ℕ → ℕ → Type 0
IsDisplacement bits n = (n % 4 ≡ 0) × ((n < 2 ^ (bits - 1)) ⊎ ((2 ^ 32 ≤ n + 2 ^ (bits - 1)) × (n < 2 ^ 32)))

-- each field fits its place in the word
abbrev pub InRange : InstrPpc → Type 0
InRange (TrapWordImmediate to a immediate) = (to < 32) × (a < 32) × (immediate < 2 ^ 16)
InRange (MultiplyLowImmediate d a immediate) = (d < 32) × (a < 32) × (immediate < 2 ^ 16)
InRange (SubtractFromImmediateCarrying d a immediate) = (d < 32) × (a < 32) × (immediate < 2 ^ 16)
InRange (CompareImmediate _ field a immediate) = (field < 8) × (a < 32) × (immediate < 2 ^ 16)
InRange (AddImmediateCarrying _ d a immediate) = (d < 32) × (a < 32) × (immediate < 2 ^ 16)
InRange (AddImmediate _ d a immediate) = (d < 32) × (a < 32) × (immediate < 2 ^ 16)
InRange (BranchConditional bo bi displacement _ _) = (bo < 32) × (bi < 32) × IsDisplacement 16 displacement
InRange (Branch displacement _ _) = IsDisplacement 26 displacement
InRange (Rotate (RotateLeftImmediate _ a s sh mb me _)) = (a < 32) × (s < 32) × (sh < 32) × (mb < 32) × (me < 32)
InRange (Rotate (RotateLeft a s b mb me _)) = (a < 32) × (s < 32) × (b < 32) × (mb < 32) × (me < 32)
InRange (LogicalImmediate _ a s immediate) = (a < 32) × (s < 32) × (immediate < 2 ^ 16)
InRange (Load _ _ d a offset) = (d < 32) × (a < 32) × (offset < 2 ^ 16)
InRange (Store _ _ s a offset) = (s < 32) × (a < 32) × (offset < 2 ^ 16)
InRange (Multiple (LoadMultiple d a offset)) = (d < 32) × (a < 32) × (offset < 2 ^ 16)
InRange (Multiple (StoreMultiple s a offset)) = (s < 32) × (a < 32) × (offset < 2 ^ 16)
InRange (MoveConditionField field from) = (field < 8) × (from < 8)
InRange (BranchConditionalToRegister _ bo bi _) = (bo < 32) × (bi < 32)
InRange (ConditionLogical _ d a b) = (d < 32) × (a < 32) × (b < 32)
InRange InstructionSynchronize = Unit {0}
InRange (Add _ d a b _ _) = (d < 32) × (a < 32) × (b < 32)
InRange (AddExtended _ d a _ _) = (d < 32) × (a < 32)
InRange (SubtractFrom _ d a b _ _) = (d < 32) × (a < 32) × (b < 32)
InRange (SubtractFromExtended _ d a _ _) = (d < 32) × (a < 32)
InRange (Negate d a _ _) = (d < 32) × (a < 32)
InRange (Multiply (MultiplyLow d a b _ _)) = (d < 32) × (a < 32) × (b < 32)
InRange (Multiply (MultiplyHigh _ d a b _)) = (d < 32) × (a < 32) × (b < 32)
InRange (Divide _ d a b _ _) = (d < 32) × (a < 32) × (b < 32)
InRange (Logical _ a s b _) = (a < 32) × (s < 32) × (b < 32)
InRange (Unary _ a s _) = (a < 32) × (s < 32)
InRange (Shift _ a s b _) = (a < 32) × (s < 32) × (b < 32)
InRange (ShiftRightAlgebraicImmediate a s sh _) = (a < 32) × (s < 32) × (sh < 32)
InRange (CompareOrTrap (Compare _ field a b)) = (field < 8) × (a < 32) × (b < 32)
InRange (CompareOrTrap (TrapWord to a b)) = (to < 32) × (a < 32) × (b < 32)
InRange (LoadIndexed _ _ d a b) = (d < 32) × (a < 32) × (b < 32)
InRange (StoreIndexed _ _ s a b) = (s < 32) × (a < 32) × (b < 32)
InRange (Reversed (LoadReversed _ d a b)) = (d < 32) × (a < 32) × (b < 32)
InRange (Reversed (StoreReversed _ s a b)) = (s < 32) × (a < 32) × (b < 32)
InRange (StringImmediate (LoadStringImmediate d a nb)) = (d < 32) × (a < 32) × (nb < 32)
InRange (StringImmediate (StoreStringImmediate s a nb)) = (s < 32) × (a < 32) × (nb < 32)
InRange (StringIndexed (LoadStringIndexed d a b)) = (d < 32) × (a < 32) × (b < 32)
InRange (StringIndexed (StoreStringIndexed s a b)) = (s < 32) × (a < 32) × (b < 32)
InRange (MoveCondition (MoveFromConditionRegister d)) = d < 32
InRange (MoveCondition (MoveToConditionFields mask s)) = (mask < 256) × (s < 32)
InRange (MoveXerToConditionField field) = field < 8
InRange (MoveSpecial (MoveFromSpecial d _)) = d < 32
InRange (MoveSpecial (MoveToSpecial _ s)) = s < 32
InRange Synchronize = Unit {0}

-- none of the forms that the manual calls invalid: an update without a base, a load over its own
-- base, and a branch to the count register that counts it down
abbrev pub is_valid : InstrPpc → Bool
is_valid (Load _ true d a _) = is_base a && not (a == d)
is_valid (LoadIndexed _ true d a _) = is_base a && not (a == d)
is_valid (Store _ true _ a _) = is_base a
is_valid (StoreIndexed _ true _ a _) = is_base a
is_valid (Multiple (LoadMultiple d a _)) = nat_lt a d
is_valid (StringImmediate (LoadStringImmediate d a nb)) = not (list_any (λ r. r == a) (registers_from d (string_registers nb)))
is_valid (BranchConditionalToRegister CountTarget bo _ _) = (bo / 4 % 2) == 1
is_valid _ = true

-- the fields fit, and the word is the instruction's spelling
abbrev pub Encodes : InstrPpc → ℕ → Type 0
Encodes i w = InRange i × (word_of i ≡ w)

-- a word stands for a valid instruction
abbrev pub Stands : InstrPpc → ℕ → Type 0
Stands i w = Encodes i w × (is_valid i ≡ true)
