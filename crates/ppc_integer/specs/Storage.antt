-- Loads and stores (PowerPC 601 RISC Microprocessor User's Manual, chapter 10). An access at any address is
-- allowed, also where the manual's processor would ask for help.
use Rattle.std.specs.Prelude.{ℕ, ◌+◌, ◌*◌, ◌/◌, ◌%◌, Bool, if◌then◌else◌}
use Rattle.mix_bits.specs.Sizes.{sign_extended}
use Rattle.mix_bits.specs.Addresses.{onward}
use Rattle.mix_bits.specs.declared.size.Size.{Size}
use Rattle.mix_bits.specs.declared.size.Size.TheVariants.{One, Two, Four}
use Rattle.big_memory.specs.Memory.{Memory, loaded}
use Rattle.big_memory.specs.Stores.{stored_value}
use Rattle.big_memory.specs.Steps.{After, after_load, after_store}
use Rattle.big_memory.specs.Steps.After.{Goes}
use Rattle.ppc_isa.specs.declared.registers.RegsPpc.{RegsPpc}
use Rattle.ppc_isa.specs.declared.instruction.LoadKind.{LoadKind}
use Rattle.ppc_isa.specs.declared.instruction.LoadKind.TheVariants.{Word as LoadWord, Byte as LoadByte, Half as LoadHalf, HalfAlgebraic}
use Rattle.ppc_isa.specs.declared.instruction.StoreKind.{StoreKind}
use Rattle.ppc_isa.specs.declared.instruction.StoreKind.TheVariants.{Word as StoreWord, Byte as StoreByte, Half as StoreHalf}
use Rattle.ppc_isa.specs.declared.instruction.ReversedKind.{ReversedKind}
use Rattle.ppc_isa.specs.declared.instruction.ReversedKind.TheVariants.{Word as ReversedWord, Half as ReversedHalf}
use Rattle.ppc_integer.specs.File.{base_of, gpr_of, onto_next, with_gpr}
use Rattle.ppc_integer.specs.Arithmetic.{immediate_of}

-- the address of an access
abbrev pub offset_address : RegsPpc → ℕ → ℕ → ℕ
offset_address r a offset = onward (base_of r a) (immediate_of offset)

abbrev pub index_address : RegsPpc → ℕ → ℕ → ℕ
index_address r a b = onward (base_of r a) (gpr_of r b)

-- with update, register A takes the address
abbrev pub updated : Bool → ℕ → ℕ → RegsPpc → RegsPpc
updated update a at r = if update then with_gpr r a at else r

abbrev pub load_size : LoadKind → Size
load_size LoadWord = Four
load_size LoadByte = One
load_size LoadHalf = Two
load_size HalfAlgebraic = Two

-- the algebraic form repeats the sign
abbrev pub load_value : LoadKind → ℕ → ℕ
load_value LoadWord v = v
load_value LoadByte v = v
load_value LoadHalf v = v
load_value HalfAlgebraic v = sign_extended v Two

abbrev pub store_size : StoreKind → Size
store_size StoreWord = Four
store_size StoreByte = One
store_size StoreHalf = Two

abbrev pub load : RegsPpc → Memory → LoadKind → Bool → ℕ → ℕ → ℕ → After RegsPpc
load r m kind update d a at =
    after_load r.pc (λ v. Goes (onto_next (with_gpr (updated update a at r) d (load_value kind v))) m) (loaded m at (load_size kind))

abbrev pub store : RegsPpc → Memory → StoreKind → Bool → ℕ → ℕ → ℕ → After RegsPpc
store r m kind update s a at = after_store r.pc (onto_next (updated update a at r)) (stored_value m at (store_size kind) (gpr_of r s))

abbrev pub reversed_size : ReversedKind → Size
reversed_size ReversedWord = Four
reversed_size ReversedHalf = Two

-- the low bytes in the other order
abbrev pub reversed : ReversedKind → ℕ → ℕ
reversed ReversedHalf v = v % 256 * 256 + v / 256 % 256
reversed ReversedWord v = (v % 256 * 256 + v / 256 % 256) * 65536 + (v / 65536 % 256 * 256 + v / 16777216 % 256)

abbrev pub load_reversed : RegsPpc → Memory → ReversedKind → ℕ → ℕ → After RegsPpc
load_reversed r m kind d at = after_load r.pc (λ v. Goes (onto_next (with_gpr r d (reversed kind v))) m) (loaded m at (reversed_size kind))

abbrev pub store_reversed : RegsPpc → Memory → ReversedKind → ℕ → ℕ → After RegsPpc
store_reversed r m kind s at = after_store r.pc (onto_next r) (stored_value m at (reversed_size kind) (reversed kind (gpr_of r s)))
