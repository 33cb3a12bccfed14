-- The name and the operands of each instruction, in the order of its line (PowerPC 601 RISC Microprocessor User's Manual,
-- chapter 10).
use Rattle.std.specs.Prelude.{List, [], ◌++◌, codes, ℕ, if◌then◌else◌, ◌∷◌}
use Rattle.ppc_isa.specs.declared.instruction.InstrPpc.{InstrPpc}
use Rattle.ppc_isa.specs.declared.instruction.InstrPpc.TheVariants.{TrapWordImmediate, MultiplyLowImmediate, SubtractFromImmediateCarrying, CompareImmediate, AddImmediateCarrying, AddImmediate, BranchConditional, Branch, LogicalImmediate, Load, Store, MoveConditionField, BranchConditionalToRegister, ConditionLogical, InstructionSynchronize, Add, AddExtended, SubtractFrom, SubtractFromExtended, Negate, Divide, Logical, Unary, Shift, ShiftRightAlgebraicImmediate, LoadIndexed, StoreIndexed, MoveXerToConditionField, Synchronize, Rotate, Multiple, Multiply, CompareOrTrap, Reversed, StringImmediate, StringIndexed, MoveCondition, MoveSpecial}
use Rattle.ppc_isa.specs.declared.instruction.Rotation.TheVariants.{RotateLeftImmediate, RotateLeft}
use Rattle.ppc_isa.specs.declared.instruction.MultipleAccess.TheVariants.{LoadMultiple, StoreMultiple}
use Rattle.ppc_isa.specs.declared.instruction.Multiplication.TheVariants.{MultiplyLow, MultiplyHigh}
use Rattle.ppc_isa.specs.declared.instruction.Comparison.TheVariants.{Compare, TrapWord}
use Rattle.ppc_isa.specs.declared.instruction.ReversedAccess.TheVariants.{LoadReversed, StoreReversed}
use Rattle.ppc_isa.specs.declared.instruction.StringImmediateAccess.TheVariants.{LoadStringImmediate, StoreStringImmediate}
use Rattle.ppc_isa.specs.declared.instruction.StringIndexedAccess.TheVariants.{LoadStringIndexed, StoreStringIndexed}
use Rattle.ppc_isa.specs.declared.instruction.ConditionMove.TheVariants.{MoveFromConditionRegister, MoveToConditionFields}
use Rattle.ppc_isa.specs.declared.instruction.SpecialMove.TheVariants.{MoveFromSpecial, MoveToSpecial}
use Rattle.ppc_isa.specs.Targets.{branch_target}
use Rattle.ppc_text.specs.declared.operand.Operand.{Operand}
use Rattle.ppc_text.specs.declared.operand.Operand.TheVariants.{Register, Number, Signed, Displaced, Target}
use Rattle.ppc_text.specs.Names.{letter, update, record_mark, overflow_marks, link_mark, branch_marks, carry_name, extended_name, immediate_name, logical_name, unary_name, shift_name, rotate_name, load_name, store_name, load_reversed_name, store_reversed_name, branch_name}
use Rattle.ppc_text.specs.Operands.{special_number}

-- the name and the operands of an instruction at an address
abbrev pub parts : InstrPpc → ℕ → List ℕ × List Operand
parts (AddImmediate shifted d a immediate) at = (codes "addi" ++ letter shifted (codes "s"), Register d ∷ Register a ∷ Signed immediate ∷ [])
parts (AddImmediateCarrying rc d a immediate) at = (codes "addic" ++ record_mark rc, Register d ∷ Register a ∷ Signed immediate ∷ [])
parts (SubtractFromImmediateCarrying d a immediate) at = (codes "subfic", Register d ∷ Register a ∷ Signed immediate ∷ [])
parts (MultiplyLowImmediate d a immediate) at = (codes "mulli", Register d ∷ Register a ∷ Signed immediate ∷ [])
parts (CompareImmediate signed field a immediate) at = (if signed then codes "cmpi" else codes "cmpli", Number field ∷ Number 0 ∷ Register a ∷ (if signed then Signed immediate else Number immediate) ∷ [])
parts (TrapWordImmediate to a immediate) at = (codes "twi", Number to ∷ Register a ∷ Signed immediate ∷ [])
parts (LogicalImmediate op a s immediate) at = (immediate_name op, Register a ∷ Register s ∷ Number immediate ∷ [])
parts (Rotate (RotateLeftImmediate outside a s sh mb me rc)) at = (rotate_name outside ++ record_mark rc, Register a ∷ Register s ∷ Number sh ∷ Number mb ∷ Number me ∷ [])
parts (Rotate (RotateLeft a s b mb me rc)) at = (codes "rlwnm" ++ record_mark rc, Register a ∷ Register s ∷ Register b ∷ Number mb ∷ Number me ∷ [])
parts (BranchConditional bo bi displacement aa lk) at = (codes "bc" ++ branch_marks lk aa, Number bo ∷ Number bi ∷ Target (branch_target aa at displacement) ∷ [])
parts (Branch displacement aa lk) at = (codes "b" ++ branch_marks lk aa, Target (branch_target aa at displacement) ∷ [])
parts (Load kind u d a offset) at = (load_name kind ++ update u, Register d ∷ Displaced offset a ∷ [])
parts (Store kind u s a offset) at = (store_name kind ++ update u, Register s ∷ Displaced offset a ∷ [])
parts (Multiple (LoadMultiple d a offset)) at = (codes "lmw", Register d ∷ Displaced offset a ∷ [])
parts (Multiple (StoreMultiple s a offset)) at = (codes "stmw", Register s ∷ Displaced offset a ∷ [])
parts (MoveConditionField field from) at = (codes "mcrf", Number field ∷ Number from ∷ [])
parts (BranchConditionalToRegister register bo bi lk) at = (branch_name register ++ link_mark lk, Number bo ∷ Number bi ∷ [])
parts (ConditionLogical op d a b) at = (codes "cr" ++ logical_name op, Number d ∷ Number a ∷ Number b ∷ [])
parts InstructionSynchronize at = (codes "isync", [])
parts (Add carry d a b oe rc) at = (codes "add" ++ carry_name carry ++ overflow_marks oe rc, Register d ∷ Register a ∷ Register b ∷ [])
parts (AddExtended operand d a oe rc) at = (codes "add" ++ extended_name operand ++ overflow_marks oe rc, Register d ∷ Register a ∷ [])
parts (SubtractFrom carry d a b oe rc) at = (codes "subf" ++ carry_name carry ++ overflow_marks oe rc, Register d ∷ Register a ∷ Register b ∷ [])
parts (SubtractFromExtended operand d a oe rc) at = (codes "subf" ++ extended_name operand ++ overflow_marks oe rc, Register d ∷ Register a ∷ [])
parts (Negate d a oe rc) at = (codes "neg" ++ overflow_marks oe rc, Register d ∷ Register a ∷ [])
parts (Multiply (MultiplyLow d a b oe rc)) at = (codes "mullw" ++ overflow_marks oe rc, Register d ∷ Register a ∷ Register b ∷ [])
parts (Multiply (MultiplyHigh signed d a b rc)) at = ((if signed then codes "mulhw" else codes "mulhwu") ++ record_mark rc, Register d ∷ Register a ∷ Register b ∷ [])
parts (Divide signed d a b oe rc) at = ((if signed then codes "divw" else codes "divwu") ++ overflow_marks oe rc, Register d ∷ Register a ∷ Register b ∷ [])
parts (Logical op a s b rc) at = (logical_name op ++ record_mark rc, Register a ∷ Register s ∷ Register b ∷ [])
parts (Unary op a s rc) at = (unary_name op ++ record_mark rc, Register a ∷ Register s ∷ [])
parts (Shift op a s b rc) at = (shift_name op ++ record_mark rc, Register a ∷ Register s ∷ Register b ∷ [])
parts (ShiftRightAlgebraicImmediate a s sh rc) at = (codes "srawi" ++ record_mark rc, Register a ∷ Register s ∷ Number sh ∷ [])
parts (CompareOrTrap (Compare signed field a b)) at = (if signed then codes "cmp" else codes "cmpl", Number field ∷ Number 0 ∷ Register a ∷ Register b ∷ [])
parts (CompareOrTrap (TrapWord to a b)) at = (codes "tw", Number to ∷ Register a ∷ Register b ∷ [])
parts (LoadIndexed kind u d a b) at = (load_name kind ++ update u ++ codes "x", Register d ∷ Register a ∷ Register b ∷ [])
parts (StoreIndexed kind u s a b) at = (store_name kind ++ update u ++ codes "x", Register s ∷ Register a ∷ Register b ∷ [])
parts (Reversed (LoadReversed kind d a b)) at = (load_reversed_name kind, Register d ∷ Register a ∷ Register b ∷ [])
parts (Reversed (StoreReversed kind s a b)) at = (store_reversed_name kind, Register s ∷ Register a ∷ Register b ∷ [])
parts (StringImmediate (LoadStringImmediate d a nb)) at = (codes "lswi", Register d ∷ Register a ∷ Number nb ∷ [])
parts (StringImmediate (StoreStringImmediate s a nb)) at = (codes "stswi", Register s ∷ Register a ∷ Number nb ∷ [])
parts (StringIndexed (LoadStringIndexed d a b)) at = (codes "lswx", Register d ∷ Register a ∷ Register b ∷ [])
parts (StringIndexed (StoreStringIndexed s a b)) at = (codes "stswx", Register s ∷ Register a ∷ Register b ∷ [])
parts (MoveCondition (MoveFromConditionRegister d)) at = (codes "mfcr", Register d ∷ [])
parts (MoveCondition (MoveToConditionFields mask s)) at = (codes "mtcrf", Number mask ∷ Register s ∷ [])
parts (MoveXerToConditionField field) at = (codes "mcrxr", Number field ∷ [])
parts (MoveSpecial (MoveFromSpecial d register)) at = (codes "mfspr", Register d ∷ Number (special_number register) ∷ [])
parts (MoveSpecial (MoveToSpecial register s)) at = (codes "mtspr", Number (special_number register) ∷ Register s ∷ [])
parts Synchronize at = (codes "sync", [])

-- a name says nothing of the address
abbrev pub name : InstrPpc → List ℕ
name i = (parts i 0).0

abbrev pub operands : InstrPpc → ℕ → List Operand
operands i at = (parts i at).1
