-- Loads and stores of several registers and of strings, in the order of their addresses: the first access
-- that is refused refuses the instruction (PowerPC 601 RISC Microprocessor User's Manual, chapter 10, lmw,
-- stmw, lswi, lswx, stswi and stswx).
use Rattle.std.specs.Prelude.{ℕ, zero, suc, ◌+◌, ◌-◌, ◌*◌, ◌/◌, ◌%◌, ◌==◌, Bool, ◌||◌, if◌then◌else◌, List, drop, slice_index, slice_set, Result, Ok}
use Rattle.std.specs.List.{list_any}
use Rattle.mix_bits.specs.Addresses.{onward}
use Rattle.mix_bits.specs.Digits.{digit_of, digit_replaced}
use Rattle.mix_bits.specs.Results.{◌>>=◌}
use Rattle.mix_bits.specs.declared.size.Size.TheVariants.{One, Four}
use Rattle.mix_bits.specs.declared.fault.FaultKind.TheVariants.{BadInstr}
use Rattle.big_memory.specs.declared.refusals.Access.{Access}
use Rattle.big_memory.specs.Memory.{Memory, loaded}
use Rattle.big_memory.specs.Stores.{stored_longs, stored_value}
use Rattle.mix_bits.specs.Faults.{fault_at}
use Rattle.big_memory.specs.Steps.{After, after_store}
use Rattle.big_memory.specs.Steps.After.{Goes, Stops}
use Rattle.ppc_isa.specs.declared.registers.RegsPpc.{RegsPpc}
use Rattle.ppc_isa.specs.Operands.{registers_from}
use Rattle.ppc_integer.specs.Xer.{string_length_of}
use Rattle.ppc_integer.specs.File.{onto_next}
use Rattle.big_memory.specs.Steps.{after_load}

-- the first `n` accesses, in order, or the first refusal; each works on what the accesses before it left
unfoldable pub in_order : {A : Type 0} → (A → ℕ → Result A Access) → A → ℕ → Result A Access
in_order access start zero = Ok start
in_order access start (suc k) = in_order access start k >>= λ left. access left k

-- word k at an address goes to register d + k
abbrev pub load_word : Memory → ℕ → ℕ → List ℕ → ℕ → Result (List ℕ) Access
load_word m at d gpr k = loaded m (onward at (4 * k)) Four >>= λ v. Ok (slice_set gpr (d + k) v)

-- registers d to 31
abbrev pub load_multiple : RegsPpc → Memory → ℕ → ℕ → After RegsPpc
load_multiple r m d at = after_load r.pc (λ gpr. Goes (onto_next (record r { gpr = gpr })) m) (in_order (load_word m at d) r.gpr (32 - d))

abbrev pub store_multiple : RegsPpc → Memory → ℕ → ℕ → After RegsPpc
store_multiple r m s at = after_store r.pc (onto_next r) (stored_longs m at (drop s r.gpr))

-- the register of byte k of a string, four bytes a register; register 0 follows on register 31
abbrev pub string_register : ℕ → ℕ → ℕ
string_register d k = (d + k / 4) % 32

-- the place of byte k in its register, the first byte the highest
abbrev pub string_place : ℕ → ℕ
string_place k = 24 - 8 * (k % 4)

-- a register is cleared before its first byte
abbrev pub with_string_byte : List ℕ → ℕ → ℕ → ℕ → List ℕ
with_string_byte gpr d k byte =
    slice_set gpr (string_register d k) (digit_replaced (if k % 4 == 0 then 0 else slice_index gpr (string_register d k)) (string_place k) 8 byte)

abbrev pub string_byte : List ℕ → ℕ → ℕ → ℕ
string_byte gpr s k = digit_of (slice_index gpr (string_register s k)) (string_place k) 8

abbrev pub load_byte : Memory → ℕ → ℕ → List ℕ → ℕ → Result (List ℕ) Access
load_byte m at d gpr k = loaded m (onward at k) One >>= λ byte. Ok (with_string_byte gpr d k byte)

abbrev pub store_byte : List ℕ → ℕ → ℕ → Memory → ℕ → Result Memory Access
store_byte gpr s at m k = stored_value m (onward at k) One (string_byte gpr s k)

abbrev pub load_string : RegsPpc → Memory → ℕ → ℕ → ℕ → After RegsPpc
load_string r m d at n = after_load r.pc (λ gpr. Goes (onto_next (record r { gpr = gpr })) m) (in_order (load_byte m at d) r.gpr n)

abbrev pub store_string : RegsPpc → Memory → ℕ → ℕ → ℕ → After RegsPpc
store_string r m s at n = after_store r.pc (onto_next r) (in_order (store_byte r.gpr s at) m n)

-- whether a string of n bytes fills a register
abbrev pub fills : ℕ → ℕ → ℕ → Bool
fills register d n = list_any (λ filled. filled == register) (registers_from d ((n + 3) / 4))

-- a string over the registers of its own address is no instruction of this project's
abbrev pub load_string_indexed : RegsPpc → Memory → ℕ → ℕ → ℕ → ℕ → ℕ → After RegsPpc
load_string_indexed r m word d a b at =
    let n = string_length_of r.xer in
    if fills a d n || fills b d n then Stops (fault_at r.pc BadInstr word) else load_string r m d at n
