-- A fetch of the word at the program counter.
use Rattle.std.specs.Prelude.{◌≡◌, ℕ}
use Rattle.mix_bits.specs.declared.fault.Fault.{Fault}
use Rattle.big_memory.specs.declared.steps.Did.{Did}
use Rattle.big_memory.specs.declared.steps.Did.TheVariants.{Next, Leave, Stop}
use Rattle.big_memory.specs.Memory.{Memory}
use Rattle.big_memory.specs.Steps.After.{Leaves, Stops}
use Rattle.ppc_isa.specs.declared.registers.RegsPpc.{RegsPpc}
use Rattle.ppc_isa.specs.Rows.{decoded}
use Rattle.ppc_integer.specs.Effects.{runs_decoded, stepped}

-- the step is that of a word
abbrev pub IsOfWord : RegsPpc → Memory → ℕ → Type 0
IsOfWord r m word = stepped r m ≡ runs_decoded r m word (decoded word)

-- a fetch of the word at pc, whose place is the cell's detail; where there is none, the step is done
abbrev pub Fetches : Did → Fault → RegsPpc → Memory → Type 0
Fetches Next cell r m = IsOfWord r m cell.detail
Fetches Leave cell r m = stepped r m ≡ Leaves cell.detail
Fetches Stop cell r m = stepped r m ≡ Stops cell
