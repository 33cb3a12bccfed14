-- Each instruction of PowerPC code leaves memory as it was beside where it stores.
use Rattle.std.proofs.Common.{◌≡◌, ℕ, zero, suc, ◌+◌, ◌-◌, ◌*◌, ◌<◌, ◌≤◌, Bool, true, false, ◌||◌, if◌then◌else◌, List, length, drop, length-drop, Result, Ok, Err, arith}
use Rattle.mix_bits.specs.Results.{◌>>=◌}
use Rattle.mix_bits.specs.Addresses.{onward}
use Rattle.mix_bits.specs.declared.fault.Fault.{Fault}
use Rattle.mix_bits.specs.declared.size.Size.{Size}
use Rattle.mix_bits.specs.declared.size.Size.TheVariants.{One}
use Rattle.big_memory.specs.declared.refusals.Access.{Access}
use Rattle.big_memory.specs.Memory.{Memory, loaded}
use Rattle.big_memory.specs.Stores.{stored_longs, stored_value}
use Rattle.big_memory.specs.Steps.{After, after_store}
use Rattle.big_memory.specs.Steps.After.{Goes, Leaves as LeavesSet, Stops}
use Rattle.ppc_isa.specs.declared.registers.RegsPpc.{RegsPpc}
use Rattle.ppc_isa.specs.declared.instruction.InstrPpc.{InstrPpc}
use Rattle.ppc_isa.specs.declared.instruction.InstrPpc.TheVariants.{TrapWordImmediate, MultiplyLowImmediate, SubtractFromImmediateCarrying, CompareImmediate, AddImmediateCarrying, AddImmediate, BranchConditional, Branch, LogicalImmediate, Load, Store, MoveConditionField, BranchConditionalToRegister, ConditionLogical, InstructionSynchronize, Add, AddExtended, SubtractFrom, SubtractFromExtended, Negate, Divide, Logical, Unary, Shift, ShiftRightAlgebraicImmediate, LoadIndexed, StoreIndexed, MoveXerToConditionField, Synchronize, Rotate, Multiple, Multiply, CompareOrTrap, Reversed, StringImmediate, StringIndexed, MoveCondition, MoveSpecial}
use Rattle.ppc_isa.specs.declared.instruction.Rotation.TheVariants.{RotateLeftImmediate, RotateLeft}
use Rattle.ppc_isa.specs.declared.instruction.MultipleAccess.TheVariants.{LoadMultiple, StoreMultiple}
use Rattle.ppc_isa.specs.declared.instruction.Multiplication.TheVariants.{MultiplyLow, MultiplyHigh}
use Rattle.ppc_isa.specs.declared.instruction.Comparison.TheVariants.{Compare, TrapWord}
use Rattle.ppc_isa.specs.declared.instruction.ReversedAccess.TheVariants.{LoadReversed, StoreReversed}
use Rattle.ppc_isa.specs.declared.instruction.StringImmediateAccess.TheVariants.{LoadStringImmediate, StoreStringImmediate}
use Rattle.ppc_isa.specs.declared.instruction.StringIndexedAccess.TheVariants.{LoadStringIndexed, StoreStringIndexed}
use Rattle.ppc_isa.specs.declared.instruction.ConditionMove.TheVariants.{MoveFromConditionRegister, MoveToConditionFields}
use Rattle.ppc_isa.specs.declared.instruction.SpecialMove.TheVariants.{MoveFromSpecial, MoveToSpecial}
use Rattle.ppc_integer.specs.Traps.{traps_on}
use Rattle.ppc_isa.specs.Operands.{string_length}
use Rattle.ppc_integer.specs.Xer.{string_length_of}
use Rattle.ppc_integer.specs.Arithmetic.{immediate_of}
use Rattle.ppc_integer.specs.Effects.{runs, trap_word}
use Rattle.ppc_integer.specs.File.{base_of, gpr_of}
use Rattle.big_memory.specs.Steps.{after_load}
use Rattle.ppc_integer.specs.Storage.{index_address, load_size, offset_address, reversed_size, store_size}
use Rattle.ppc_integer.specs.Strings.{fills, in_order, load_byte, load_word, store_byte, string_byte}
use Rattle.mix_reach.specs.declared.reach.Reach.{Reach}
use Rattle.mix_reach.specs.laws.Ranges.{Beside, nothing, range}
use Rattle.mix_reach.specs.laws.RowsPpc.{stores, string_at}
use Rattle.mix_reach.proofs.Leaving.{IsShort, Leaves, Stores, along, longs-leave, stay, stores as one-store, wider}

abbrev pub AfterHolds : {R : Type 0} → Reach → Memory → After R → Type 0
AfterHolds w m (Goes r n) = Beside w m.bytes n.bytes
AfterHolds w m (LeavesSet number) = ⊥
AfterHolds w m (Stops fault) = Unit {0}

-- a step of an instruction leaves memory as it was beside a range
pub record AfterKept {R : Type 0} (w : Reach) (m : Memory) (x : After R) : Type 0 where
  pub holds : AfterHolds w m x

goes : (w : Reach) (m : Memory) (r : RegsPpc) → AfterKept w m (Goes r m)
goes w m r = record { holds = stay w m.bytes }

stops : (w : Reach) (m : Memory) (fault : Fault) → AfterKept {R = RegsPpc} w m (Stops fault)
stops w m fault = record { holds = tt }

either : (w : Reach) (m : Memory) (b : Bool) (x y : After RegsPpc) → AfterKept w m x → AfterKept w m y → AfterKept w m (if b then x else y)
either w m true x y first second = first
either w m false x y first second = second

loads : {T : Type 0} (w : Reach) (m : Memory) (pc : ℕ) (f : T → After RegsPpc) (x : Result T Access) → ((y : T) → AfterKept w m (f y)) → AfterKept w m (after_load pc f x)
loads w m pc f (Ok y) each = each y
loads w m pc f (Err e) each = stops w m _

stored-after : (w : Reach) (m : Memory) (pc : ℕ) (r : RegsPpc) (x : Result Memory Access) → Leaves w m x → AfterKept w m (after_store pc r x)
stored-after w m pc r (Ok n) left = record { holds = left }
stored-after w m pc r (Err e) left = stops w m _

one-left : (m : Memory) (a : ℕ) (s : Size) (x : Result Memory Access) → Stores m a s x → Leaves (range a 4) m x
one-left m a s (Ok n) did = did.beside
one-left m a s (Err e) did = tt

stored-one : (m : Memory) (a : ℕ) (s : Size) (v pc : ℕ) (r : RegsPpc) → AfterKept (range a 4) m (after_store pc r (stored_value m a s v))
stored-one m a s v pc r = stored-after (range a 4) m pc r (stored_value m a s v) (one-left m a s (stored_value m a s v) (one-store m a s v))

trapped : (r : RegsPpc) (m : Memory) (word to x y : ℕ) → AfterKept nothing m (trap_word r m word to x y)
trapped r m word to x y = either nothing m (traps_on to x y) _ _ (stops nothing m _) (goes nothing m _)

-- several longs from an address on
length-behind : (s : ℕ) (xs : List ℕ) → length (drop s xs) ≤ length xs
length-behind s xs = omega (arith, length-drop s xs)

longs-wider : (m : Memory) (a : ℕ) (vs : List ℕ) (count : ℕ) (x : Result Memory Access) → length vs ≤ count → Leaves (range a (4 * length vs)) m x → Leaves (range a (4 * count)) m x
longs-wider m a vs count (Ok n) few left = wider (range a (4 * count)) (range a (4 * length vs)) m.bytes n.bytes (omega arith) (omega (arith, few)) left
longs-wider m a vs count (Err e) few left = tt

-- a string from an address on lies in memory, so that no address of it wraps
pub record StringLeft (m : Memory) (at n : ℕ) (t : Memory) : Type 0 where
  pub within : 0 < n → onward at 0 + n ≤ length m.bytes
  pub beside : Beside (string_at at n) m.bytes t.bytes

abbrev StringLeaves : Memory → ℕ → ℕ → Result Memory Access → Type 0
StringLeaves m at n (Ok t) = StringLeft m at n t
StringLeaves m at n (Err e) = Unit {0}

no-wrap : (at k len : ℕ) → (0 < k → onward at 0 + k ≤ len) → len ≤ 16777216 → onward at k ≡ onward at 0 + k
no-wrap at zero len within most = omega arith
no-wrap at (suc k) len within most = let all = within (omega arith) in omega (arith, all, most)

one-more : (gpr : List ℕ) (s at : ℕ) (m : Memory) (k : ℕ) (x : Result Memory Access) → IsShort m → StringLeaves m at k x → StringLeaves m at (suc k) (x >>= λ left. store_byte gpr s at left k)
one-more gpr s at m k (Err e) short before = tt
one-more gpr s at m k (Ok t) short before = goes_to (stored_value t (onward at k) One (string_byte gpr s k)) (one-store t (onward at k) One (string_byte gpr s k))
  where
    goes_to : (y : Result Memory Access) → Stores t (onward at k) One y → StringLeaves m at (suc k) y
    goes_to (Err e) did = tt
    goes_to (Ok u) did =
        let last : onward at k + 1 ≤ length t.bytes = did.within (omega arith) in
        let long = before.beside.long in
        let next : onward at k ≡ onward at 0 + k = no-wrap at k (length m.bytes) before.within short.most in
        record {
          within = λ some. omega (arith, last, long, next);
          beside =
              along (string_at at (suc k)) m.bytes t.bytes u.bytes
              (wider (string_at at (suc k)) (string_at at k) m.bytes t.bytes (omega arith) (omega arith) before.beside)
              (wider (string_at at (suc k)) (range (onward at k) 1) t.bytes u.bytes (omega (arith, next)) (omega (arith, next)) did.exact);
        }

string-left : (gpr : List ℕ) (s at : ℕ) (m : Memory) (n : ℕ) → IsShort m → StringLeaves m at n (in_order (store_byte gpr s at) m n)
unfolding in_order
string-left gpr s at m zero short = record { within = λ none. absurd (omega (arith, none)); beside = stay (string_at at 0) m.bytes }
string-left gpr s at m (suc n) short = one-more gpr s at m n (in_order (store_byte gpr s at) m n) short (string-left gpr s at m n short)

string-leaves : (m : Memory) (at n : ℕ) (x : Result Memory Access) → StringLeaves m at n x → Leaves (string_at at n) m x
string-leaves m at n (Ok t) left = left.beside
string-leaves m at n (Err e) left = tt

stored-string : (r : RegsPpc) (m : Memory) (s at n pc : ℕ) (next : RegsPpc) → IsShort m → AfterKept (string_at at n) m (after_store pc next (in_order (store_byte r.gpr s at) m n))
stored-string r m s at n pc next short =
    stored-after (string_at at n) m pc next (in_order (store_byte r.gpr s at) m n)
    (string-leaves m at n (in_order (store_byte r.gpr s at) m n) (string-left r.gpr s at m n short))

pub rows : (r : RegsPpc) (m : Memory) (word : ℕ) (i : InstrPpc) → IsShort m → AfterKept (stores r i) m (runs r m word i)
rows r m word (AddImmediate shifted d a i) short = goes nothing m _
rows r m word (AddImmediateCarrying rc d a i) short = goes nothing m _
rows r m word (SubtractFromImmediateCarrying d a i) short = goes nothing m _
rows r m word (MultiplyLowImmediate d a i) short = goes nothing m _
rows r m word (Add carry d a b oe rc) short = goes nothing m _
rows r m word (AddExtended operand d a oe rc) short = goes nothing m _
rows r m word (SubtractFrom carry d a b oe rc) short = goes nothing m _
rows r m word (SubtractFromExtended operand d a oe rc) short = goes nothing m _
rows r m word (Negate d a oe rc) short = goes nothing m _
rows r m word (Multiply (MultiplyLow d a b oe rc)) short = goes nothing m _
rows r m word (Multiply (MultiplyHigh signed d a b rc)) short = goes nothing m _
rows r m word (Divide signed d a b oe rc) short = goes nothing m _
rows r m word (LogicalImmediate op a s i) short = goes nothing m _
rows r m word (Logical op a s b rc) short = goes nothing m _
rows r m word (Unary op a s rc) short = goes nothing m _
rows r m word (Rotate (RotateLeftImmediate outside a s sh mb me rc)) short = goes nothing m _
rows r m word (Rotate (RotateLeft a s b mb me rc)) short = goes nothing m _
rows r m word (Shift op a s b rc) short = goes nothing m _
rows r m word (ShiftRightAlgebraicImmediate a s sh rc) short = goes nothing m _
rows r m word (CompareImmediate signed field a i) short = goes nothing m _
rows r m word (CompareOrTrap (Compare signed field a b)) short = goes nothing m _
rows r m word (MoveConditionField field from) short = goes nothing m _
rows r m word (ConditionLogical op d a b) short = goes nothing m _
rows r m word (MoveCondition (MoveFromConditionRegister d)) short = goes nothing m _
rows r m word (MoveCondition (MoveToConditionFields mask s)) short = goes nothing m _
rows r m word (MoveXerToConditionField field) short = goes nothing m _
rows r m word (MoveSpecial (MoveFromSpecial d register)) short = goes nothing m _
rows r m word (MoveSpecial (MoveToSpecial register s)) short = goes nothing m _
rows r m word (Branch displacement aa lk) short = goes nothing m _
rows r m word (BranchConditional bo bi displacement aa lk) short = goes nothing m _
rows r m word (BranchConditionalToRegister register bo bi lk) short = goes nothing m _
rows r m word (TrapWordImmediate to a i) short = trapped r m word to (gpr_of r a) (immediate_of i)
rows r m word (CompareOrTrap (TrapWord to a b)) short = trapped r m word to (gpr_of r a) (gpr_of r b)
rows r m word (Load kind update d a offset) short = loads nothing m r.pc _ (loaded m (offset_address r a offset) (load_size kind)) (λ v. goes nothing m _)
rows r m word (LoadIndexed kind update d a b) short = loads nothing m r.pc _ (loaded m (index_address r a b) (load_size kind)) (λ v. goes nothing m _)
rows r m word (Store kind update s a offset) short = stored-one m (offset_address r a offset) (store_size kind) (gpr_of r s) r.pc _
rows r m word (StoreIndexed kind update s a b) short = stored-one m (index_address r a b) (store_size kind) (gpr_of r s) r.pc _
rows r m word (Reversed (LoadReversed kind d a b)) short = loads nothing m r.pc _ (loaded m (index_address r a b) (reversed_size kind)) (λ v. goes nothing m _)
rows r m word (Reversed (StoreReversed kind s a b)) short = stored-one m (index_address r a b) (reversed_size kind) _ r.pc _
rows r m word (Multiple (LoadMultiple d a offset)) short = loads nothing m r.pc _ (in_order (load_word m (offset_address r a offset) d) r.gpr (32 - d)) (λ v. goes nothing m _)
rows r m word (Multiple (StoreMultiple s a offset)) short =
    stored-after (range (offset_address r a offset) (4 * length r.gpr)) m r.pc _ (stored_longs m (offset_address r a offset) (drop s r.gpr))
    (longs-wider m (offset_address r a offset) (drop s r.gpr) (length r.gpr) (stored_longs m (offset_address r a offset) (drop s r.gpr)) (length-behind s r.gpr)
    (longs-leave m (offset_address r a offset) (drop s r.gpr) short))
rows r m word (StringImmediate (LoadStringImmediate d a nb)) short = loads nothing m r.pc _ (in_order (load_byte m (base_of r a) d) r.gpr (string_length nb)) (λ v. goes nothing m _)
rows r m word (StringImmediate (StoreStringImmediate s a nb)) short = stored-string r m s (base_of r a) (string_length nb) r.pc _ short
rows r m word (StringIndexed (LoadStringIndexed d a b)) short =
    either nothing m (fills a d (string_length_of r.xer) || fills b d (string_length_of r.xer)) _ _ (stops nothing m _)
    (loads nothing m r.pc _ (in_order (load_byte m (index_address r a b) d) r.gpr (string_length_of r.xer)) (λ v. goes nothing m _))
rows r m word (StringIndexed (StoreStringIndexed s a b)) short = stored-string r m s (index_address r a b) (string_length_of r.xer) r.pc _ short
rows r m word InstructionSynchronize short = goes nothing m _
rows r m word Synchronize short = goes nothing m _
