-- Where the words of a call stand, and that no two of them share a register or a byte.
use Rattle.std.specs.Prelude.{◌≡◌, ◌≢◌, ℕ, ◌+◌, ◌*◌, ◌<◌, ◌≤◌, Bool, List, length, slice_index, slice_index_or, Ok}
use Rattle.mix_bits.specs.Addresses.{onward}
use Rattle.mix_bits.specs.declared.size.Size.TheVariants.{Four}
use Rattle.big_memory.specs.Memory.{Memory, loaded}
use Rattle.ppc_isa.specs.declared.registers.RegsPpc.{RegsPpc}
use Rattle.proc_info.specs.declared.param.Param.{Param}
use Rattle.proc_info.specs.Signature.{Signature}
use Rattle.args_ppc.specs.Words.{value_at, values_at, word_at}
use Rattle.args_ppc.specs.Deliver.{below}
use Rattle.args_ppc.specs.DeliverClauses.{first_param}

-- the word with a number stands in this register
abbrev pub IsInRegister : ℕ → ℕ → Type 0
IsInRegister i register = (i < 8) × (register ≡ 3 + i)

-- the word with a number has the byte so far above r1
abbrev pub HasByte : ℕ → ℕ → Type 0
HasByte i at = (8 ≤ i) × (24 + 4 * i ≤ at) × (at < 24 + 4 * i + 4)

-- it is read there
pub record IsReadThere (r : RegsPpc) (m : Memory) (i : ℕ) : Type 0 where
  pub registers : (register : ℕ) → IsInRegister i register → word_at r m i ≡ Ok (slice_index r.gpr register)
  pub memory : HasByte i (24 + 4 * i) → word_at r m i ≡ loaded m (onward (slice_index r.gpr 1) (24 + 4 * i)) Four

abbrev pub WordsAreThere : Type 0
WordsAreThere = (r : RegsPpc) (m : Memory) (i : ℕ) → IsReadThere r m i

-- parameters from a word on are that word and those behind it, one for each
abbrev pub ParametersAreWords : Type 0
ParametersAreWords =
    (r : RegsPpc) (m : Memory) (first : ℕ) (ps : List Param) (vs : List ℕ) (k : ℕ) (d : Param) → values_at r m first ps ≡ Ok vs → k < length ps
    → value_at r m (first + k) (slice_index_or ps k d).size ≡ Ok (slice_index vs k)

-- two words share nothing
pub record IsApart (one other : ℕ) : Type 0 where
  pub registers : (register : ℕ) → IsInRegister one register → IsInRegister other register → ⊥
  pub bytes : (at : ℕ) → HasByte one at → HasByte other at → ⊥

abbrev pub WordsAreApart : Type 0
WordsAreApart = (one other : ℕ) → one ≢ other → IsApart one other

-- a callee's words in memory lie in its stack frame, behind the linkage area and the places of the words in registers
abbrev pub WordsAreInTheFrame : Type 0
WordsAreInTheFrame =
    (sig : Signature) (passed : Bool) (i at : ℕ) → i < first_param passed + length sig.params → HasByte i at → (56 ≤ at) × (at < below sig passed)
