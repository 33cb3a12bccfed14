-- How a step of either set answers: what it leaves of registers and memory, with its fault in a cell.
use Rattle.std.specs.Prelude.{◌≡◌}
use Rattle.mix_bits.specs.declared.fault.Fault.{Fault}
use Rattle.big_memory.specs.declared.steps.Did.{Did}
use Rattle.big_memory.specs.declared.steps.Did.TheVariants.{Next, Leave, Stop}
use Rattle.big_memory.specs.Memory.{Memory}
use Rattle.big_memory.specs.StoresClauses.{OnlyFree}
use Rattle.big_memory.specs.Steps.{After}
use Rattle.big_memory.specs.Steps.After.{Goes, Leaves, Stops}

-- a call that does the step, from registers r and memory m to registers next and memory n. The fault,
-- or the number as its detail, stands in a cell beside them
abbrev pub Does : {R : Type 0} → After R → Did → Fault → R → R → Memory → Memory → Type 0
Does step Next cell r next m n = (step ≡ Goes next n) × OnlyFree m n
Does step Leave cell r next m n = (step ≡ Leaves cell.detail) × (next ≡ r) × (n ≡ m)
Does step Stop cell r next m n = (step ≡ Stops cell) × (next ≡ r) × (n ≡ m)
