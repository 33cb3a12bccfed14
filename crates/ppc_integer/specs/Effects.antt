-- What the instruction at pc does: a line for each row of the table of instructions
-- (PowerPC 601 RISC Microprocessor User's Manual, chapter 10).
use Rattle.std.specs.Prelude.{ℕ, ◌==◌, not, if◌then◌else◌, Option, Some, None, ◌%◌}
use Rattle.mix_bits.specs.declared.size.Size.TheVariants.{Four}
use Rattle.mix_bits.specs.declared.fault.FaultKind.TheVariants.{BadInstr, Trap, Odd, GateFetch}
use Rattle.big_memory.specs.Memory.{Memory, loaded}
use Rattle.big_memory.specs.Map.{host_code, in_gate_page}
use Rattle.mix_bits.specs.Faults.{fault_at}
use Rattle.big_memory.specs.Steps.{After}
use Rattle.big_memory.specs.Steps.After.{Goes, Leaves, Stops}
use Rattle.ppc_isa.specs.declared.registers.RegsPpc.{RegsPpc}
use Rattle.ppc_isa.specs.declared.instruction.InstrPpc.{InstrPpc}
use Rattle.ppc_isa.specs.declared.instruction.InstrPpc.TheVariants.{TrapWordImmediate, MultiplyLowImmediate, SubtractFromImmediateCarrying, CompareImmediate, AddImmediateCarrying, AddImmediate, BranchConditional, Branch, LogicalImmediate, Load, Store, MoveConditionField, BranchConditionalToRegister, ConditionLogical, InstructionSynchronize, Add, AddExtended, SubtractFrom, SubtractFromExtended, Negate, Divide, Logical, Unary, Shift, ShiftRightAlgebraicImmediate, LoadIndexed, StoreIndexed, MoveXerToConditionField, Synchronize, Rotate, Multiple, Multiply, CompareOrTrap, Reversed, StringImmediate, StringIndexed, MoveCondition, MoveSpecial}
use Rattle.ppc_isa.specs.declared.instruction.Rotation.TheVariants.{RotateLeftImmediate, RotateLeft}
use Rattle.ppc_isa.specs.declared.instruction.MultipleAccess.TheVariants.{LoadMultiple, StoreMultiple}
use Rattle.ppc_isa.specs.declared.instruction.Multiplication.TheVariants.{MultiplyLow, MultiplyHigh}
use Rattle.ppc_isa.specs.declared.instruction.Comparison.TheVariants.{Compare, TrapWord}
use Rattle.ppc_isa.specs.declared.instruction.ReversedAccess.TheVariants.{LoadReversed, StoreReversed}
use Rattle.ppc_isa.specs.declared.instruction.StringImmediateAccess.TheVariants.{LoadStringImmediate, StoreStringImmediate}
use Rattle.ppc_isa.specs.declared.instruction.StringIndexedAccess.TheVariants.{LoadStringIndexed, StoreStringIndexed}
use Rattle.ppc_isa.specs.declared.instruction.ConditionMove.TheVariants.{MoveFromConditionRegister, MoveToConditionFields}
use Rattle.ppc_isa.specs.declared.instruction.SpecialMove.TheVariants.{MoveFromSpecial, MoveToSpecial}
use Rattle.ppc_isa.specs.Rows.{decoded}
use Rattle.ppc_integer.specs.Traps.{traps_on}
use Rattle.ppc_integer.specs.Xer.{string_length_of}
use Rattle.ppc_isa.specs.Operands.{string_length}
use Rattle.ppc_integer.specs.File.{base_of, gpr_of, onto_next}
use Rattle.ppc_integer.specs.Arithmetic.{add, add_extended, add_immediate, add_immediate_carrying, divide, immediate_of, multiply_high, multiply_low, multiply_low_immediate, negate, subtract_from, subtract_from_extended, subtract_from_immediate_carrying}
use Rattle.ppc_integer.specs.Logical.{logical, logical_immediate, unary}
use Rattle.ppc_integer.specs.Rotate.{rotate_left_immediate, rotate_left_register, shift, shift_right_algebraic_immediate}
use Rattle.ppc_integer.specs.Conditions.{compare_immediate, compare_registers, condition_logical, move_condition_field, move_from_condition_register, move_to_condition_fields, move_xer_to_condition_field}
use Rattle.ppc_integer.specs.Special.{move_from_special, move_to_special}
use Rattle.ppc_integer.specs.Branches.{branch, branch_conditional, branch_conditional_to_register}
use Rattle.big_memory.specs.Steps.{after_load}
use Rattle.ppc_integer.specs.Storage.{index_address, load, load_reversed, offset_address, store, store_reversed}
use Rattle.ppc_integer.specs.Strings.{load_multiple, load_string, load_string_indexed, store_multiple, store_string}

-- the registers have changed, and the next instruction follows
abbrev pub goes_on : Memory → RegsPpc → After RegsPpc
goes_on m r = Goes (onto_next r) m

-- a trap where one of its conditions holds
abbrev pub trap_word : RegsPpc → Memory → ℕ → ℕ → ℕ → ℕ → After RegsPpc
trap_word r m word to x y = if traps_on to x y then Stops (fault_at r.pc Trap word) else goes_on m r

-- the instruction's step, from its word and what the word stands for
abbrev pub runs : RegsPpc → Memory → ℕ → InstrPpc → After RegsPpc
runs r m word (AddImmediate shifted d a i) = goes_on m (add_immediate r shifted d a i)
runs r m word (AddImmediateCarrying rc d a i) = goes_on m (add_immediate_carrying r rc d a i)
runs r m word (SubtractFromImmediateCarrying d a i) = goes_on m (subtract_from_immediate_carrying r d a i)
runs r m word (MultiplyLowImmediate d a i) = goes_on m (multiply_low_immediate r d a i)
runs r m word (Add carry d a b oe rc) = goes_on m (add r carry d a b oe rc)
runs r m word (AddExtended operand d a oe rc) = goes_on m (add_extended r operand d a oe rc)
runs r m word (SubtractFrom carry d a b oe rc) = goes_on m (subtract_from r carry d a b oe rc)
runs r m word (SubtractFromExtended operand d a oe rc) = goes_on m (subtract_from_extended r operand d a oe rc)
runs r m word (Negate d a oe rc) = goes_on m (negate r d a oe rc)
runs r m word (Multiply (MultiplyLow d a b oe rc)) = goes_on m (multiply_low r d a b oe rc)
runs r m word (Multiply (MultiplyHigh signed d a b rc)) = goes_on m (multiply_high r signed d a b rc)
runs r m word (Divide signed d a b oe rc) = goes_on m (divide r signed d a b oe rc)
runs r m word (LogicalImmediate op a s i) = goes_on m (logical_immediate r op a s i)
runs r m word (Logical op a s b rc) = goes_on m (logical r op a s b rc)
runs r m word (Unary op a s rc) = goes_on m (unary r op a s rc)
runs r m word (Rotate (RotateLeftImmediate outside a s sh mb me rc)) = goes_on m (rotate_left_immediate r outside a s sh mb me rc)
runs r m word (Rotate (RotateLeft a s b mb me rc)) = goes_on m (rotate_left_register r a s b mb me rc)
runs r m word (Shift op a s b rc) = goes_on m (shift r op a s b rc)
runs r m word (ShiftRightAlgebraicImmediate a s sh rc) = goes_on m (shift_right_algebraic_immediate r a s sh rc)
runs r m word (CompareImmediate signed field a i) = goes_on m (compare_immediate r signed field a i)
runs r m word (CompareOrTrap (Compare signed field a b)) = goes_on m (compare_registers r signed field a b)
runs r m word (MoveConditionField field from) = goes_on m (move_condition_field r field from)
runs r m word (ConditionLogical op d a b) = goes_on m (condition_logical r op d a b)
runs r m word (MoveCondition (MoveFromConditionRegister d)) = goes_on m (move_from_condition_register r d)
runs r m word (MoveCondition (MoveToConditionFields mask s)) = goes_on m (move_to_condition_fields r mask s)
runs r m word (MoveXerToConditionField field) = goes_on m (move_xer_to_condition_field r field)
runs r m word (MoveSpecial (MoveFromSpecial d register)) = goes_on m (move_from_special r d register)
runs r m word (MoveSpecial (MoveToSpecial register s)) = goes_on m (move_to_special r register s)
runs r m word (Branch displacement aa lk) = Goes (branch r displacement aa lk) m
runs r m word (BranchConditional bo bi displacement aa lk) = Goes (branch_conditional r bo bi displacement aa lk) m
runs r m word (BranchConditionalToRegister register bo bi lk) = Goes (branch_conditional_to_register r register bo bi lk) m
runs r m word (TrapWordImmediate to a i) = trap_word r m word to (gpr_of r a) (immediate_of i)
runs r m word (CompareOrTrap (TrapWord to a b)) = trap_word r m word to (gpr_of r a) (gpr_of r b)
runs r m word (Load kind update d a offset) = load r m kind update d a (offset_address r a offset)
runs r m word (LoadIndexed kind update d a b) = load r m kind update d a (index_address r a b)
runs r m word (Store kind update s a offset) = store r m kind update s a (offset_address r a offset)
runs r m word (StoreIndexed kind update s a b) = store r m kind update s a (index_address r a b)
runs r m word (Reversed (LoadReversed kind d a b)) = load_reversed r m kind d (index_address r a b)
runs r m word (Reversed (StoreReversed kind s a b)) = store_reversed r m kind s (index_address r a b)
runs r m word (Multiple (LoadMultiple d a offset)) = load_multiple r m d (offset_address r a offset)
runs r m word (Multiple (StoreMultiple s a offset)) = store_multiple r m s (offset_address r a offset)
runs r m word (StringImmediate (LoadStringImmediate d a nb)) = load_string r m d (base_of r a) (string_length nb)
runs r m word (StringImmediate (StoreStringImmediate s a nb)) = store_string r m s (base_of r a) (string_length nb)
runs r m word (StringIndexed (LoadStringIndexed d a b)) = load_string_indexed r m word d a b (index_address r a b)
runs r m word (StringIndexed (StoreStringIndexed s a b)) = store_string r m s (index_address r a b) (string_length_of r.xer)
runs r m word InstructionSynchronize = goes_on m r
runs r m word Synchronize = goes_on m r

-- the step of a word that stands for this instruction, or for none
abbrev pub runs_decoded : RegsPpc → Memory → ℕ → Option InstrPpc → After RegsPpc
runs_decoded r m word (Some instruction) = runs r m word instruction
runs_decoded r m word None = Stops (fault_at r.pc BadInstr word)

-- the host goes on at the code address of one of its functions; elsewhere the gate page has no code
abbrev pub at_gate_page : RegsPpc → Option ℕ → After RegsPpc
at_gate_page r (Some k) = Leaves k
at_gate_page r None = Stops (fault_at r.pc GateFetch r.pc)

-- a step of PowerPC code, where pc is no gate
unfoldable pub stepped : RegsPpc → Memory → After RegsPpc
stepped r m =
    if not (r.pc % 4 == 0) then Stops (fault_at r.pc Odd r.pc)
    else if in_gate_page r.pc then at_gate_page r (host_code r.pc)
    else after_load r.pc (λ word. runs_decoded r m word (decoded word)) (loaded m r.pc Four)
