-- No instruction leaves the set.
use Rattle.std.proofs.Common.{◌≡◌, ℕ, ◌%◌, ◌==◌, Bool, true, false, not, ◌||◌, if◌then◌else◌, ◌-◌, List, drop, Option, Some, None, Result, Ok, Err, subst}
use Rattle.mix_bits.specs.declared.size.Size.TheVariants.{Four}
use Rattle.mix_bits.specs.declared.fault.FaultKind.TheVariants.{BadInstr, Odd, Trap}
use Rattle.big_memory.specs.declared.refusals.Access.{Access}
use Rattle.big_memory.specs.Map.{host_code, in_gate_page}
use Rattle.big_memory.specs.Memory.{Memory, loaded}
use Rattle.big_memory.specs.Stores.{stored_longs, stored_value}
use Rattle.mix_bits.specs.Faults.{fault_at}
use Rattle.big_memory.specs.Steps.{After, after_store}
use Rattle.big_memory.specs.Steps.After.{Goes, Leaves, Stops}
use Rattle.ppc_isa.specs.declared.registers.RegsPpc.{RegsPpc}
use Rattle.ppc_isa.specs.declared.instruction.InstrPpc.{InstrPpc}
use Rattle.ppc_isa.specs.declared.instruction.InstrPpc.TheVariants.{TrapWordImmediate, Load, Store, LoadIndexed, StoreIndexed, Multiple, CompareOrTrap, Reversed, StringImmediate, StringIndexed, Rotate, Multiply, MoveCondition, MoveSpecial}
use Rattle.ppc_isa.specs.declared.instruction.MultipleAccess.TheVariants.{LoadMultiple, StoreMultiple}
use Rattle.ppc_isa.specs.declared.instruction.Comparison.TheVariants.{Compare, TrapWord}
use Rattle.ppc_isa.specs.declared.instruction.ReversedAccess.TheVariants.{LoadReversed, StoreReversed}
use Rattle.ppc_isa.specs.declared.instruction.StringImmediateAccess.TheVariants.{LoadStringImmediate, StoreStringImmediate}
use Rattle.ppc_isa.specs.declared.instruction.StringIndexedAccess.TheVariants.{LoadStringIndexed, StoreStringIndexed}
use Rattle.ppc_isa.specs.declared.instruction.Rotation.TheVariants.{RotateLeftImmediate, RotateLeft}
use Rattle.ppc_isa.specs.declared.instruction.Multiplication.TheVariants.{MultiplyLow, MultiplyHigh}
use Rattle.ppc_isa.specs.declared.instruction.ConditionMove.TheVariants.{MoveFromConditionRegister, MoveToConditionFields}
use Rattle.ppc_isa.specs.declared.instruction.SpecialMove.TheVariants.{MoveFromSpecial, MoveToSpecial}
use Rattle.ppc_isa.specs.Rows.{decoded}
use Rattle.ppc_integer.specs.Traps.{traps_on}
use Rattle.ppc_integer.specs.Xer.{string_length_of}
use Rattle.ppc_isa.specs.declared.instruction.LoadKind.{LoadKind}
use Rattle.ppc_isa.specs.declared.instruction.ReversedKind.{ReversedKind}
use Rattle.ppc_isa.specs.Operands.{string_length}
use Rattle.ppc_integer.specs.File.{base_of, gpr_of, onto_next, with_gpr}
use Rattle.ppc_integer.specs.Arithmetic.{immediate_of}
use Rattle.big_memory.specs.Steps.{after_load}
use Rattle.ppc_integer.specs.Storage.{index_address, load, load_reversed, load_size, load_value, offset_address, reversed, reversed_size, store_size, updated}
use Rattle.ppc_integer.specs.Strings.{fills, in_order, load_byte, load_string, load_word, store_byte}
use Rattle.ppc_integer.specs.Effects.{at_gate_page, goes_on, runs, runs_decoded, stepped, trap_word}
use Rattle.ppc_integer.specs.laws.Laws.{LeavesAtHostCode}

abbrev Stays : After RegsPpc → Type 0
Stays (Goes next m) = Unit {0}
Stays (Leaves k) = ⊥
Stays (Stops fault) = Unit {0}

either-stays : (b : Bool) (x y : After RegsPpc) → Stays x → Stays y → Stays (if b then x else y)
either-stays true x y first second = first
either-stays false x y first second = second

load-stays : {T : Type 0} (pc : ℕ) (rest : T → After RegsPpc) (found : Result T Access) → ((v : T) → Stays (rest v)) → Stays (after_load pc rest found)
load-stays pc rest (Ok v) each = each v
load-stays pc rest (Err e) each = tt

store-stays : (pc : ℕ) (next : RegsPpc) (left : Result Memory Access) → Stays (after_store pc next left)
store-stays pc next (Ok m) = tt
store-stays pc next (Err e) = tt

trap-stays : (r : RegsPpc) (m : Memory) (word to x y : ℕ) → Stays (trap_word r m word to x y)
trap-stays r m word to x y = either-stays (traps_on to x y) (Stops (fault_at r.pc Trap word)) (goes_on m r) tt tt

loads-stay : (r : RegsPpc) (m : Memory) (kind : LoadKind) (update : Bool) (d a at : ℕ) → Stays (load r m kind update d a at)
loads-stay r m kind update d a at =
    load-stays r.pc (λ v. Goes (onto_next (with_gpr (updated update a at r) d (load_value kind v))) m) (loaded m at (load_size kind)) (λ v. tt)

reversed-stays : (r : RegsPpc) (m : Memory) (kind : ReversedKind) (d at : ℕ) → Stays (load_reversed r m kind d at)
reversed-stays r m kind d at = load-stays r.pc (λ v. Goes (onto_next (with_gpr r d (reversed kind v))) m) (loaded m at (reversed_size kind)) (λ v. tt)

file-stays : (r : RegsPpc) (m : Memory) (found : Result (List ℕ) Access) → Stays (after_load {T = List ℕ} r.pc (λ gpr. Goes (onto_next (record r { gpr = gpr })) m) found)
file-stays r m found = load-stays {T = List ℕ} r.pc (λ gpr. Goes (onto_next (record r { gpr = gpr })) m) found (λ gpr. tt)

strings-stay : (r : RegsPpc) (m : Memory) (d at n : ℕ) → Stays (load_string r m d at n)
strings-stay r m d at n = file-stays r m (in_order (load_byte m at d) r.gpr n)

indexed-stays : (r : RegsPpc) (m : Memory) (word d at n : ℕ) (over : Bool) → Stays (if over then Stops (fault_at r.pc BadInstr word) else load_string r m d at n)
indexed-stays r m word d at n true = tt
indexed-stays r m word d at n false = strings-stay r m d at n

runs-stays : (r : RegsPpc) (m : Memory) (word : ℕ) (i : InstrPpc) → Stays (runs r m word i)
runs-stays r m word (TrapWordImmediate to a i) = trap-stays r m word to (gpr_of r a) (immediate_of i)
runs-stays r m word (CompareOrTrap (TrapWord to a b)) = trap-stays r m word to (gpr_of r a) (gpr_of r b)
runs-stays r m word (Load kind update d a offset) = loads-stay r m kind update d a (offset_address r a offset)
runs-stays r m word (LoadIndexed kind update d a b) = loads-stay r m kind update d a (index_address r a b)
runs-stays r m word (Store kind update s a offset) =
    store-stays r.pc (onto_next (updated update a (offset_address r a offset) r)) (stored_value m (offset_address r a offset) (store_size kind) (gpr_of r s))
runs-stays r m word (StoreIndexed kind update s a b) =
    store-stays r.pc (onto_next (updated update a (index_address r a b) r)) (stored_value m (index_address r a b) (store_size kind) (gpr_of r s))
runs-stays r m word (Reversed (LoadReversed kind d a b)) = reversed-stays r m kind d (index_address r a b)
runs-stays r m word (Reversed (StoreReversed kind s a b)) =
    store-stays r.pc (onto_next r) (stored_value m (index_address r a b) (reversed_size kind) (reversed kind (gpr_of r s)))
runs-stays r m word (Multiple (LoadMultiple d a offset)) = file-stays r m (in_order (load_word m (offset_address r a offset) d) r.gpr (32 - d))
runs-stays r m word (Multiple (StoreMultiple s a offset)) = store-stays r.pc (onto_next r) (stored_longs m (offset_address r a offset) (drop s r.gpr))
runs-stays r m word (StringImmediate (LoadStringImmediate d a nb)) = strings-stay r m d (base_of r a) (string_length nb)
runs-stays r m word (StringImmediate (StoreStringImmediate s a nb)) = store-stays r.pc (onto_next r) (in_order (store_byte r.gpr s (base_of r a)) m (string_length nb))
runs-stays r m word (StringIndexed (LoadStringIndexed d a b)) =
    let n = string_length_of r.xer in indexed-stays r m word d (index_address r a b) n (fills a d n || fills b d n)
runs-stays r m word (StringIndexed (StoreStringIndexed s a b)) =
    store-stays r.pc (onto_next r) (in_order (store_byte r.gpr s (index_address r a b)) m (string_length_of r.xer))
runs-stays r m word (Rotate (RotateLeftImmediate outside a s sh mb me rc)) = tt
runs-stays r m word (Rotate (RotateLeft a s b mb me rc)) = tt
runs-stays r m word (Multiply (MultiplyLow d a b oe rc)) = tt
runs-stays r m word (Multiply (MultiplyHigh signed d a b rc)) = tt
runs-stays r m word (CompareOrTrap (Compare signed field a b)) = tt
runs-stays r m word (MoveCondition (MoveFromConditionRegister d)) = tt
runs-stays r m word (MoveCondition (MoveToConditionFields mask s)) = tt
runs-stays r m word (MoveSpecial (MoveFromSpecial d register)) = tt
runs-stays r m word (MoveSpecial (MoveToSpecial register s)) = tt
runs-stays r m word _ = tt

decoded-stays : (r : RegsPpc) (m : Memory) (word : ℕ) (found : Option InstrPpc) → Stays (runs_decoded r m word found)
decoded-stays r m word (Some i) = runs-stays r m word i
decoded-stays r m word None = tt

-- what leaves the set leaves it in the gate page
page-leaves : (r : RegsPpc) (k : ℕ) (found : Option ℕ) → at_gate_page r found ≡ Leaves k → found ≡ Some k
page-leaves r k (Some j) is = cc
page-leaves r k None is = cc

never : (x : After RegsPpc) (k : ℕ) → Stays x → x ≡ Leaves k → ⊥
never x k stays is = subst Stays is stays

fetched-stays : (r : RegsPpc) (m : Memory) → Stays (after_load r.pc (λ word. runs_decoded r m word (decoded word)) (loaded m r.pc Four))
fetched-stays r m = load-stays r.pc (λ word. runs_decoded r m word (decoded word)) (loaded m r.pc Four) (λ word. decoded-stays r m word (decoded word))

leaves-by : (r : RegsPpc) (m : Memory) (k : ℕ) (odd page : Bool)
    → (if odd then Stops (fault_at r.pc Odd r.pc) else (if page then at_gate_page r (host_code r.pc) else after_load r.pc (λ word. runs_decoded r m word (decoded word)) (loaded m r.pc Four))) ≡ Leaves k
    → host_code r.pc ≡ Some k
leaves-by r m k true page is = cc
leaves-by r m k false true is = page-leaves r k (host_code r.pc) is
leaves-by r m k false false is =
    absurd (never (after_load r.pc (λ word. runs_decoded r m word (decoded word)) (loaded m r.pc Four)) k (fetched-stays r m) is)

pub leaves-at_host : LeavesAtHostCode
unfolding stepped
leaves-at_host r m k is = leaves-by r m k (not (r.pc % 4 == 0)) (in_gate_page r.pc) is
