-- Each instruction's word is read as the instruction.
use Rattle.std.proofs.Common.{◌≡◌, ℕ, ◌+◌, ◌*◌, ◌/◌, ◌%◌, ◌^◌, ◌<◌, ◌==◌, Bool, true, false, Some, arith, lit<, sym, ◌∙◌, ap, refl}
use Rattle.std.proofs.lemmas.Bool.Decides.{nat_tests}
use Rattle.std.specs.Int.{from_bool}
use Rattle.ppc_isa.specs.declared.instruction.CarryUse.TheVariants.{Plain, Carrying, Extended}
use Rattle.ppc_isa.specs.declared.instruction.ExtendedOperand.TheVariants.{Zero as ZeroOperand, MinusOne}
use Rattle.ppc_isa.specs.declared.instruction.ImmediateOp.TheVariants.{Or as ImmediateOr, OrShifted, Xor as ImmediateXor, XorShifted, And as ImmediateAnd, AndShifted}
use Rattle.ppc_isa.specs.declared.instruction.LogicalOp.TheVariants.{And, Or, Xor, Nand, Nor, Equivalent, AndComplement, OrComplement}
use Rattle.ppc_isa.specs.declared.instruction.UnaryOp.TheVariants.{ExtendSignByte, ExtendSignHalf, CountLeadingZeros}
use Rattle.ppc_isa.specs.declared.instruction.ShiftOp.TheVariants.{Left, Right, RightAlgebraic}
use Rattle.ppc_isa.specs.declared.instruction.MaskUse.TheVariants.{Insert, Clear}
use Rattle.ppc_isa.specs.declared.instruction.LoadKind.TheVariants.{Word as LoadWord, Byte as LoadByte, Half as LoadHalf, HalfAlgebraic}
use Rattle.ppc_isa.specs.declared.instruction.StoreKind.TheVariants.{Word as StoreWord, Byte as StoreByte, Half as StoreHalf}
use Rattle.ppc_isa.specs.declared.instruction.ReversedKind.TheVariants.{Word as ReversedWord, Half as ReversedHalf}
use Rattle.ppc_isa.specs.declared.instruction.BranchRegister.TheVariants.{Link as LinkTarget, Count as CountTarget}
use Rattle.ppc_isa.specs.declared.instruction.SpecialRegister.TheVariants.{Xer, Link as LinkSpecial, Count as CountSpecial}
use Rattle.ppc_isa.specs.declared.instruction.InstrPpc.{InstrPpc}
use Rattle.ppc_isa.specs.declared.instruction.InstrPpc.TheVariants.{TrapWordImmediate, MultiplyLowImmediate, SubtractFromImmediateCarrying, CompareImmediate, AddImmediateCarrying, AddImmediate, BranchConditional, Branch, LogicalImmediate, Load, Store, MoveConditionField, BranchConditionalToRegister, ConditionLogical, InstructionSynchronize, Add, AddExtended, SubtractFrom, SubtractFromExtended, Negate, Divide, Logical, Unary, Shift, ShiftRightAlgebraicImmediate, LoadIndexed, StoreIndexed, MoveXerToConditionField, Synchronize, Rotate, Multiple, Multiply, CompareOrTrap, Reversed, StringImmediate, StringIndexed, MoveCondition, MoveSpecial}
use Rattle.ppc_isa.specs.declared.instruction.Rotation.TheVariants.{RotateLeftImmediate, RotateLeft}
use Rattle.ppc_isa.specs.declared.instruction.MultipleAccess.TheVariants.{LoadMultiple, StoreMultiple}
use Rattle.ppc_isa.specs.declared.instruction.Multiplication.TheVariants.{MultiplyLow, MultiplyHigh}
use Rattle.ppc_isa.specs.declared.instruction.Comparison.TheVariants.{Compare, TrapWord}
use Rattle.ppc_isa.specs.declared.instruction.ReversedAccess.TheVariants.{LoadReversed, StoreReversed}
use Rattle.ppc_isa.specs.declared.instruction.StringImmediateAccess.TheVariants.{LoadStringImmediate, StoreStringImmediate}
use Rattle.ppc_isa.specs.declared.instruction.StringIndexedAccess.TheVariants.{LoadStringIndexed, StoreStringIndexed}
use Rattle.ppc_isa.specs.declared.instruction.ConditionMove.TheVariants.{MoveFromConditionRegister, MoveToConditionFields}
use Rattle.ppc_isa.specs.declared.instruction.SpecialMove.TheVariants.{MoveFromSpecial, MoveToSpecial}
use Rattle.ppc_isa.specs.Fields.{displacement_of, fields_of}
use Rattle.ppc_isa.specs.Words.{word_of, immediate_form}
use Rattle.ppc_isa.specs.Valid.{IsDisplacement, InRange, Stands, is_valid}
use Rattle.ppc_isa.proofs.Forms.{read, at_immediate, at_extended, displacement_back_16, displacement_back_26, with_marks, marks_below, absolute_mark, link_mark, marks_fit}

-- a branch by its parts
same_conditional : (bo bi n m : ℕ) (aa bb lk ll : Bool) → n ≡ m → aa ≡ bb → lk ≡ ll → Some (BranchConditional bo bi n aa lk) ≡ Some (BranchConditional bo bi m bb ll)
same_conditional bo bi n m aa bb lk ll e1 e2 e3 = cc

same_branch : (n m : ℕ) (aa bb lk ll : Bool) → n ≡ m → aa ≡ bb → lk ≡ ll → Some (Branch n aa lk) ≡ Some (Branch m bb ll)
same_branch n m aa bb lk ll e1 e2 e3 = cc

conditional_word : (bo bi n : ℕ) (aa lk : Bool) → bo < 32 → bi < 32 → IsDisplacement 16 n → read (fields_of (word_of (BranchConditional bo bi n aa lk))) ≡ Some (BranchConditional bo bi n aa lk)
conditional_word bo bi n aa lk hbo hbi h =
    let four : n % 2 ^ 16 % 4 ≡ 0 = omega (arith, h.0) in
    at_immediate 16 bo bi (with_marks (n % 2 ^ 16) aa lk) _ (lit< tt) hbo hbi (marks_fit (n % 2 ^ 16) 16384 aa lk four (omega arith))
    (same_conditional bo bi _ n _ aa _ lk
    (ap (displacement_of 16) (marks_below (n % 2 ^ 16) aa lk four) ∙ displacement_back_16 n h)
    (absolute_mark (n % 2 ^ 16) aa lk four)
    (link_mark (n % 2 ^ 16) aa lk four))

-- twenty-six bits in the places of two fields and sixteen bits
spread : (t p q : ℕ) → 18 * 2 ^ 26 + t + p + q ≡ immediate_form 18 (t / 2 ^ 21) (t / 2 ^ 16 % 32) (t % 2 ^ 16 + p + q)
spread t p q = omega arith

gathered : (t k : ℕ) → k ≡ t % 2 ^ 16 → t / 2 ^ 21 * 2 ^ 21 + t / 2 ^ 16 % 32 * 2 ^ 16 + k ≡ t
gathered t k e = omega (arith, e)

branch_word : (n : ℕ) (aa lk : Bool) → IsDisplacement 26 n → read (fields_of (word_of (Branch n aa lk))) ≡ Some (Branch n aa lk)
branch_word n aa lk h =
    let t : ℕ = n % 2 ^ 26 in
    let small : t < 2 ^ 26 = omega arith in
    let four : t % 2 ^ 16 % 4 ≡ 0 = omega (arith, h.0) in
    let word : word_of (Branch n aa lk) ≡ immediate_form 18 (t / 2 ^ 21) (t / 2 ^ 16 % 32) (with_marks (t % 2 ^ 16) aa lk) = spread t (from_bool aa * 2) (from_bool lk) in
    ap (λ w. read (fields_of w)) word
    ∙ at_immediate 18 (t / 2 ^ 21) (t / 2 ^ 16 % 32) (with_marks (t % 2 ^ 16) aa lk) _ (lit< tt) (omega (arith, small)) (omega arith) (marks_fit (t % 2 ^ 16) 16384 aa lk four (omega arith))
    (same_branch _ n _ aa _ lk
    (ap (displacement_of 26) (gathered t _ (marks_below (t % 2 ^ 16) aa lk four)) ∙ displacement_back_26 n h)
    (absolute_mark (t % 2 ^ 16) aa lk four)
    (link_mark (t % 2 ^ 16) aa lk four))

fourfold : (n : ℕ) → ((n * 4 % 4) == 0) ≡ true
fourfold n = grind (arith, nat_tests)

quarter : (n : ℕ) → n * 4 / 4 ≡ n
quarter n = omega arith

-- a mask of eight bits between two bits that are 0
mask_top : (mask : ℕ) → mask < 256 → ((mask / 16 / 16) == 0) ≡ true
mask_top mask h = grind (arith, nat_tests)

mask_end : (mask : ℕ) → ((mask % 16 * 2 % 2) == 0) ≡ true
mask_end mask = grind (arith, nat_tests)

mask_back : (mask : ℕ) → mask / 16 * 16 + mask % 16 * 2 / 2 ≡ mask
mask_back mask = omega arith

-- the table reads back what was spelled
pub read_word : (i : InstrPpc) → InRange i → is_valid i ≡ true → read (fields_of (word_of i)) ≡ Some i
read_word (TrapWordImmediate to a immediate) v _ = at_immediate 3 to a immediate _ (lit< tt) v.0 v.1 v.2 refl
read_word (MultiplyLowImmediate d a immediate) v _ = at_immediate 7 d a immediate _ (lit< tt) v.0 v.1 v.2 refl
read_word (SubtractFromImmediateCarrying d a immediate) v _ = at_immediate 8 d a immediate _ (lit< tt) v.0 v.1 v.2 refl
read_word (CompareImmediate false field a immediate) v _ = at_immediate 10 (field * 4) a immediate _ (lit< tt) (omega (arith, v.0)) v.1 v.2 (rw (fourfold field, quarter field) refl)
read_word (CompareImmediate true field a immediate) v _ = at_immediate 11 (field * 4) a immediate _ (lit< tt) (omega (arith, v.0)) v.1 v.2 (rw (fourfold field, quarter field) refl)
read_word (AddImmediateCarrying false d a immediate) v _ = at_immediate 12 d a immediate _ (lit< tt) v.0 v.1 v.2 refl
read_word (AddImmediateCarrying true d a immediate) v _ = at_immediate 13 d a immediate _ (lit< tt) v.0 v.1 v.2 refl
read_word (AddImmediate false d a immediate) v _ = at_immediate 14 d a immediate _ (lit< tt) v.0 v.1 v.2 refl
read_word (AddImmediate true d a immediate) v _ = at_immediate 15 d a immediate _ (lit< tt) v.0 v.1 v.2 refl
read_word (BranchConditional bo bi displacement aa lk) v _ = conditional_word bo bi displacement aa lk v.0 v.1 v.2
read_word (Branch displacement aa lk) v _ = branch_word displacement aa lk v
read_word (Rotate (RotateLeftImmediate Insert a s sh mb me rc)) v _ = at_extended 20 s a sh (mb * 2 ^ 5 + me) rc _ (lit< tt) v.1 v.0 v.2 (omega (arith, v.3, v.4)) (grind (arith, nat_tests))
read_word (Rotate (RotateLeftImmediate Clear a s sh mb me rc)) v _ = at_extended 21 s a sh (mb * 2 ^ 5 + me) rc _ (lit< tt) v.1 v.0 v.2 (omega (arith, v.3, v.4)) (grind (arith, nat_tests))
read_word (Rotate (RotateLeft a s b mb me rc)) v _ = at_extended 23 s a b (mb * 2 ^ 5 + me) rc _ (lit< tt) v.1 v.0 v.2 (omega (arith, v.3, v.4)) (grind (arith, nat_tests))
read_word (LogicalImmediate ImmediateOr a s immediate) v _ = at_immediate 24 s a immediate _ (lit< tt) v.1 v.0 v.2 refl
read_word (LogicalImmediate OrShifted a s immediate) v _ = at_immediate 25 s a immediate _ (lit< tt) v.1 v.0 v.2 refl
read_word (LogicalImmediate ImmediateXor a s immediate) v _ = at_immediate 26 s a immediate _ (lit< tt) v.1 v.0 v.2 refl
read_word (LogicalImmediate XorShifted a s immediate) v _ = at_immediate 27 s a immediate _ (lit< tt) v.1 v.0 v.2 refl
read_word (LogicalImmediate ImmediateAnd a s immediate) v _ = at_immediate 28 s a immediate _ (lit< tt) v.1 v.0 v.2 refl
read_word (LogicalImmediate AndShifted a s immediate) v _ = at_immediate 29 s a immediate _ (lit< tt) v.1 v.0 v.2 refl
read_word (Load LoadWord false d a offset) v _ = at_immediate 32 d a offset _ (lit< tt) v.0 v.1 v.2 refl
read_word (Load LoadWord true d a offset) v valid = at_immediate 33 d a offset _ (lit< tt) v.0 v.1 v.2 (rw valid refl)
read_word (Load LoadByte false d a offset) v _ = at_immediate 34 d a offset _ (lit< tt) v.0 v.1 v.2 refl
read_word (Load LoadByte true d a offset) v valid = at_immediate 35 d a offset _ (lit< tt) v.0 v.1 v.2 (rw valid refl)
read_word (Load LoadHalf false d a offset) v _ = at_immediate 40 d a offset _ (lit< tt) v.0 v.1 v.2 refl
read_word (Load LoadHalf true d a offset) v valid = at_immediate 41 d a offset _ (lit< tt) v.0 v.1 v.2 (rw valid refl)
read_word (Load HalfAlgebraic false d a offset) v _ = at_immediate 42 d a offset _ (lit< tt) v.0 v.1 v.2 refl
read_word (Load HalfAlgebraic true d a offset) v valid = at_immediate 43 d a offset _ (lit< tt) v.0 v.1 v.2 (rw valid refl)
read_word (Store StoreWord false s a offset) v _ = at_immediate 36 s a offset _ (lit< tt) v.0 v.1 v.2 refl
read_word (Store StoreWord true s a offset) v valid = at_immediate 37 s a offset _ (lit< tt) v.0 v.1 v.2 (rw valid refl)
read_word (Store StoreByte false s a offset) v _ = at_immediate 38 s a offset _ (lit< tt) v.0 v.1 v.2 refl
read_word (Store StoreByte true s a offset) v valid = at_immediate 39 s a offset _ (lit< tt) v.0 v.1 v.2 (rw valid refl)
read_word (Store StoreHalf false s a offset) v _ = at_immediate 44 s a offset _ (lit< tt) v.0 v.1 v.2 refl
read_word (Store StoreHalf true s a offset) v valid = at_immediate 45 s a offset _ (lit< tt) v.0 v.1 v.2 (rw valid refl)
read_word (Multiple (LoadMultiple d a offset)) v valid = at_immediate 46 d a offset _ (lit< tt) v.0 v.1 v.2 (rw valid refl)
read_word (Multiple (StoreMultiple s a offset)) v _ = at_immediate 47 s a offset _ (lit< tt) v.0 v.1 v.2 refl
read_word (MoveConditionField field from) v _ = at_extended 19 (field * 4) (from * 4) 0 0 false _ (lit< tt) (omega (arith, v.0)) (omega (arith, v.1)) (lit< tt) (lit< tt) (rw (fourfold field, fourfold from, quarter field, quarter from) refl)
read_word (BranchConditionalToRegister LinkTarget bo bi lk) v _ = at_extended 19 bo bi 0 16 lk _ (lit< tt) v.0 v.1 (lit< tt) (lit< tt) refl
read_word (ConditionLogical Nor d a b) v _ = at_extended 19 d a b 33 false _ (lit< tt) v.0 v.1 v.2 (lit< tt) refl
read_word (ConditionLogical AndComplement d a b) v _ = at_extended 19 d a b 129 false _ (lit< tt) v.0 v.1 v.2 (lit< tt) refl
read_word InstructionSynchronize v _ = at_extended 19 0 0 0 150 false _ (lit< tt) (lit< tt) (lit< tt) (lit< tt) (lit< tt) refl
read_word (ConditionLogical Xor d a b) v _ = at_extended 19 d a b 193 false _ (lit< tt) v.0 v.1 v.2 (lit< tt) refl
read_word (ConditionLogical Nand d a b) v _ = at_extended 19 d a b 225 false _ (lit< tt) v.0 v.1 v.2 (lit< tt) refl
read_word (ConditionLogical And d a b) v _ = at_extended 19 d a b 257 false _ (lit< tt) v.0 v.1 v.2 (lit< tt) refl
read_word (ConditionLogical Equivalent d a b) v _ = at_extended 19 d a b 289 false _ (lit< tt) v.0 v.1 v.2 (lit< tt) refl
read_word (ConditionLogical OrComplement d a b) v _ = at_extended 19 d a b 417 false _ (lit< tt) v.0 v.1 v.2 (lit< tt) refl
read_word (ConditionLogical Or d a b) v _ = at_extended 19 d a b 449 false _ (lit< tt) v.0 v.1 v.2 (lit< tt) refl
read_word (BranchConditionalToRegister CountTarget bo bi lk) v valid = at_extended 19 bo bi 0 528 lk _ (lit< tt) v.0 v.1 (lit< tt) (lit< tt) (rw valid refl)
read_word (Add Plain d a b true rc) v _ = at_extended 31 d a b 778 rc _ (lit< tt) v.0 v.1 v.2 (lit< tt) refl
read_word (Add Plain d a b false rc) v _ = at_extended 31 d a b 266 rc _ (lit< tt) v.0 v.1 v.2 (lit< tt) refl
read_word (Add Carrying d a b true rc) v _ = at_extended 31 d a b 522 rc _ (lit< tt) v.0 v.1 v.2 (lit< tt) refl
read_word (Add Carrying d a b false rc) v _ = at_extended 31 d a b 10 rc _ (lit< tt) v.0 v.1 v.2 (lit< tt) refl
read_word (Add Extended d a b true rc) v _ = at_extended 31 d a b 650 rc _ (lit< tt) v.0 v.1 v.2 (lit< tt) refl
read_word (Add Extended d a b false rc) v _ = at_extended 31 d a b 138 rc _ (lit< tt) v.0 v.1 v.2 (lit< tt) refl
read_word (AddExtended ZeroOperand d a true rc) v _ = at_extended 31 d a 0 714 rc _ (lit< tt) v.0 v.1 (lit< tt) (lit< tt) refl
read_word (AddExtended ZeroOperand d a false rc) v _ = at_extended 31 d a 0 202 rc _ (lit< tt) v.0 v.1 (lit< tt) (lit< tt) refl
read_word (AddExtended MinusOne d a true rc) v _ = at_extended 31 d a 0 746 rc _ (lit< tt) v.0 v.1 (lit< tt) (lit< tt) refl
read_word (AddExtended MinusOne d a false rc) v _ = at_extended 31 d a 0 234 rc _ (lit< tt) v.0 v.1 (lit< tt) (lit< tt) refl
read_word (SubtractFrom Plain d a b true rc) v _ = at_extended 31 d a b 552 rc _ (lit< tt) v.0 v.1 v.2 (lit< tt) refl
read_word (SubtractFrom Plain d a b false rc) v _ = at_extended 31 d a b 40 rc _ (lit< tt) v.0 v.1 v.2 (lit< tt) refl
read_word (SubtractFrom Carrying d a b true rc) v _ = at_extended 31 d a b 520 rc _ (lit< tt) v.0 v.1 v.2 (lit< tt) refl
read_word (SubtractFrom Carrying d a b false rc) v _ = at_extended 31 d a b 8 rc _ (lit< tt) v.0 v.1 v.2 (lit< tt) refl
read_word (SubtractFrom Extended d a b true rc) v _ = at_extended 31 d a b 648 rc _ (lit< tt) v.0 v.1 v.2 (lit< tt) refl
read_word (SubtractFrom Extended d a b false rc) v _ = at_extended 31 d a b 136 rc _ (lit< tt) v.0 v.1 v.2 (lit< tt) refl
read_word (SubtractFromExtended ZeroOperand d a true rc) v _ = at_extended 31 d a 0 712 rc _ (lit< tt) v.0 v.1 (lit< tt) (lit< tt) refl
read_word (SubtractFromExtended ZeroOperand d a false rc) v _ = at_extended 31 d a 0 200 rc _ (lit< tt) v.0 v.1 (lit< tt) (lit< tt) refl
read_word (SubtractFromExtended MinusOne d a true rc) v _ = at_extended 31 d a 0 744 rc _ (lit< tt) v.0 v.1 (lit< tt) (lit< tt) refl
read_word (SubtractFromExtended MinusOne d a false rc) v _ = at_extended 31 d a 0 232 rc _ (lit< tt) v.0 v.1 (lit< tt) (lit< tt) refl
read_word (Negate d a true rc) v _ = at_extended 31 d a 0 616 rc _ (lit< tt) v.0 v.1 (lit< tt) (lit< tt) refl
read_word (Negate d a false rc) v _ = at_extended 31 d a 0 104 rc _ (lit< tt) v.0 v.1 (lit< tt) (lit< tt) refl
read_word (Multiply (MultiplyLow d a b true rc)) v _ = at_extended 31 d a b 747 rc _ (lit< tt) v.0 v.1 v.2 (lit< tt) refl
read_word (Multiply (MultiplyLow d a b false rc)) v _ = at_extended 31 d a b 235 rc _ (lit< tt) v.0 v.1 v.2 (lit< tt) refl
read_word (Multiply (MultiplyHigh true d a b rc)) v _ = at_extended 31 d a b 75 rc _ (lit< tt) v.0 v.1 v.2 (lit< tt) refl
read_word (Multiply (MultiplyHigh false d a b rc)) v _ = at_extended 31 d a b 11 rc _ (lit< tt) v.0 v.1 v.2 (lit< tt) refl
read_word (Divide true d a b true rc) v _ = at_extended 31 d a b 1003 rc _ (lit< tt) v.0 v.1 v.2 (lit< tt) refl
read_word (Divide true d a b false rc) v _ = at_extended 31 d a b 491 rc _ (lit< tt) v.0 v.1 v.2 (lit< tt) refl
read_word (Divide false d a b true rc) v _ = at_extended 31 d a b 971 rc _ (lit< tt) v.0 v.1 v.2 (lit< tt) refl
read_word (Divide false d a b false rc) v _ = at_extended 31 d a b 459 rc _ (lit< tt) v.0 v.1 v.2 (lit< tt) refl
read_word (Logical And a s b rc) v _ = at_extended 31 s a b 28 rc _ (lit< tt) v.1 v.0 v.2 (lit< tt) refl
read_word (Logical Or a s b rc) v _ = at_extended 31 s a b 444 rc _ (lit< tt) v.1 v.0 v.2 (lit< tt) refl
read_word (Logical Xor a s b rc) v _ = at_extended 31 s a b 316 rc _ (lit< tt) v.1 v.0 v.2 (lit< tt) refl
read_word (Logical Nand a s b rc) v _ = at_extended 31 s a b 476 rc _ (lit< tt) v.1 v.0 v.2 (lit< tt) refl
read_word (Logical Nor a s b rc) v _ = at_extended 31 s a b 124 rc _ (lit< tt) v.1 v.0 v.2 (lit< tt) refl
read_word (Logical Equivalent a s b rc) v _ = at_extended 31 s a b 284 rc _ (lit< tt) v.1 v.0 v.2 (lit< tt) refl
read_word (Logical AndComplement a s b rc) v _ = at_extended 31 s a b 60 rc _ (lit< tt) v.1 v.0 v.2 (lit< tt) refl
read_word (Logical OrComplement a s b rc) v _ = at_extended 31 s a b 412 rc _ (lit< tt) v.1 v.0 v.2 (lit< tt) refl
read_word (Unary ExtendSignByte a s rc) v _ = at_extended 31 s a 0 954 rc _ (lit< tt) v.1 v.0 (lit< tt) (lit< tt) refl
read_word (Unary ExtendSignHalf a s rc) v _ = at_extended 31 s a 0 922 rc _ (lit< tt) v.1 v.0 (lit< tt) (lit< tt) refl
read_word (Unary CountLeadingZeros a s rc) v _ = at_extended 31 s a 0 26 rc _ (lit< tt) v.1 v.0 (lit< tt) (lit< tt) refl
read_word (Shift Left a s b rc) v _ = at_extended 31 s a b 24 rc _ (lit< tt) v.1 v.0 v.2 (lit< tt) refl
read_word (Shift Right a s b rc) v _ = at_extended 31 s a b 536 rc _ (lit< tt) v.1 v.0 v.2 (lit< tt) refl
read_word (Shift RightAlgebraic a s b rc) v _ = at_extended 31 s a b 792 rc _ (lit< tt) v.1 v.0 v.2 (lit< tt) refl
read_word (ShiftRightAlgebraicImmediate a s sh rc) v _ = at_extended 31 s a sh 824 rc _ (lit< tt) v.1 v.0 v.2 (lit< tt) refl
read_word (CompareOrTrap (Compare true field a b)) v _ = at_extended 31 (field * 4) a b 0 false _ (lit< tt) (omega (arith, v.0)) v.1 v.2 (lit< tt) (rw (fourfold field, quarter field) refl)
read_word (CompareOrTrap (Compare false field a b)) v _ = at_extended 31 (field * 4) a b 32 false _ (lit< tt) (omega (arith, v.0)) v.1 v.2 (lit< tt) (rw (fourfold field, quarter field) refl)
read_word (CompareOrTrap (TrapWord to a b)) v _ = at_extended 31 to a b 4 false _ (lit< tt) v.0 v.1 v.2 (lit< tt) refl
read_word (LoadIndexed LoadWord false d a b) v _ = at_extended 31 d a b 23 false _ (lit< tt) v.0 v.1 v.2 (lit< tt) refl
read_word (LoadIndexed LoadWord true d a b) v valid = at_extended 31 d a b 55 false _ (lit< tt) v.0 v.1 v.2 (lit< tt) (rw valid refl)
read_word (LoadIndexed LoadByte false d a b) v _ = at_extended 31 d a b 87 false _ (lit< tt) v.0 v.1 v.2 (lit< tt) refl
read_word (LoadIndexed LoadByte true d a b) v valid = at_extended 31 d a b 119 false _ (lit< tt) v.0 v.1 v.2 (lit< tt) (rw valid refl)
read_word (LoadIndexed LoadHalf false d a b) v _ = at_extended 31 d a b 279 false _ (lit< tt) v.0 v.1 v.2 (lit< tt) refl
read_word (LoadIndexed LoadHalf true d a b) v valid = at_extended 31 d a b 311 false _ (lit< tt) v.0 v.1 v.2 (lit< tt) (rw valid refl)
read_word (LoadIndexed HalfAlgebraic false d a b) v _ = at_extended 31 d a b 343 false _ (lit< tt) v.0 v.1 v.2 (lit< tt) refl
read_word (LoadIndexed HalfAlgebraic true d a b) v valid = at_extended 31 d a b 375 false _ (lit< tt) v.0 v.1 v.2 (lit< tt) (rw valid refl)
read_word (StoreIndexed StoreWord false s a b) v _ = at_extended 31 s a b 151 false _ (lit< tt) v.0 v.1 v.2 (lit< tt) refl
read_word (StoreIndexed StoreWord true s a b) v valid = at_extended 31 s a b 183 false _ (lit< tt) v.0 v.1 v.2 (lit< tt) (rw valid refl)
read_word (StoreIndexed StoreByte false s a b) v _ = at_extended 31 s a b 215 false _ (lit< tt) v.0 v.1 v.2 (lit< tt) refl
read_word (StoreIndexed StoreByte true s a b) v valid = at_extended 31 s a b 247 false _ (lit< tt) v.0 v.1 v.2 (lit< tt) (rw valid refl)
read_word (StoreIndexed StoreHalf false s a b) v _ = at_extended 31 s a b 407 false _ (lit< tt) v.0 v.1 v.2 (lit< tt) refl
read_word (StoreIndexed StoreHalf true s a b) v valid = at_extended 31 s a b 439 false _ (lit< tt) v.0 v.1 v.2 (lit< tt) (rw valid refl)
read_word (Reversed (LoadReversed ReversedWord d a b)) v _ = at_extended 31 d a b 534 false _ (lit< tt) v.0 v.1 v.2 (lit< tt) refl
read_word (Reversed (LoadReversed ReversedHalf d a b)) v _ = at_extended 31 d a b 790 false _ (lit< tt) v.0 v.1 v.2 (lit< tt) refl
read_word (Reversed (StoreReversed ReversedWord s a b)) v _ = at_extended 31 s a b 662 false _ (lit< tt) v.0 v.1 v.2 (lit< tt) refl
read_word (Reversed (StoreReversed ReversedHalf s a b)) v _ = at_extended 31 s a b 918 false _ (lit< tt) v.0 v.1 v.2 (lit< tt) refl
read_word (StringImmediate (LoadStringImmediate d a nb)) v valid = at_extended 31 d a nb 597 false _ (lit< tt) v.0 v.1 v.2 (lit< tt) (rw valid refl)
read_word (StringImmediate (StoreStringImmediate s a nb)) v _ = at_extended 31 s a nb 725 false _ (lit< tt) v.0 v.1 v.2 (lit< tt) refl
read_word (StringIndexed (LoadStringIndexed d a b)) v _ = at_extended 31 d a b 533 false _ (lit< tt) v.0 v.1 v.2 (lit< tt) refl
read_word (StringIndexed (StoreStringIndexed s a b)) v _ = at_extended 31 s a b 661 false _ (lit< tt) v.0 v.1 v.2 (lit< tt) refl
read_word (MoveCondition (MoveFromConditionRegister d)) v _ = at_extended 31 d 0 0 19 false _ (lit< tt) v (lit< tt) (lit< tt) (lit< tt) refl
read_word (MoveCondition (MoveToConditionFields mask s)) v _ = at_extended 31 s (mask / 2 ^ 4) (mask % 2 ^ 4 * 2) 144 false _ (lit< tt) v.1 (omega (arith, v.0)) (omega (arith, v.0)) (lit< tt) (rw (mask_top mask v.0, mask_end mask, mask_back mask) refl)
read_word (MoveXerToConditionField field) v _ = at_extended 31 (field * 4) 0 0 512 false _ (lit< tt) (omega (arith, v)) (lit< tt) (lit< tt) (lit< tt) (rw (fourfold field, quarter field) refl)
read_word (MoveSpecial (MoveFromSpecial d Xer)) v _ = at_extended 31 d 1 0 339 false _ (lit< tt) v (lit< tt) (lit< tt) (lit< tt) refl
read_word (MoveSpecial (MoveFromSpecial d LinkSpecial)) v _ = at_extended 31 d 8 0 339 false _ (lit< tt) v (lit< tt) (lit< tt) (lit< tt) refl
read_word (MoveSpecial (MoveFromSpecial d CountSpecial)) v _ = at_extended 31 d 9 0 339 false _ (lit< tt) v (lit< tt) (lit< tt) (lit< tt) refl
read_word (MoveSpecial (MoveToSpecial Xer s)) v _ = at_extended 31 s 1 0 467 false _ (lit< tt) v (lit< tt) (lit< tt) (lit< tt) refl
read_word (MoveSpecial (MoveToSpecial LinkSpecial s)) v _ = at_extended 31 s 8 0 467 false _ (lit< tt) v (lit< tt) (lit< tt) (lit< tt) refl
read_word (MoveSpecial (MoveToSpecial CountSpecial s)) v _ = at_extended 31 s 9 0 467 false _ (lit< tt) v (lit< tt) (lit< tt) (lit< tt) refl
read_word Synchronize v _ = at_extended 31 0 0 0 598 false _ (lit< tt) (lit< tt) (lit< tt) (lit< tt) (lit< tt) refl

-- a valid instruction's word is read as that instruction
pub decoded_word : (i : InstrPpc) (w : ℕ) → Stands i w → read (fields_of w) ≡ Some i
decoded_word i w s = ap (λ n. read (fields_of n)) (sym s.0.1) ∙ read_word i s.0.0 s.1
