-- What a step does that changes registers alone, whatever memory has.
use Rattle.std.specs.Prelude.{ℕ}
use Rattle.mix_bits.specs.declared.fault.Fault.{Fault}
use Rattle.big_memory.specs.Memory.{Memory}
use Rattle.big_memory.specs.StepsClauses.{Does}
use Rattle.big_memory.specs.declared.steps.Did.{Did}
use Rattle.ppc_isa.specs.declared.instruction.InstrPpc.{InstrPpc}
use Rattle.ppc_isa.specs.declared.registers.RegsPpc.{RegsPpc}
use Rattle.ppc_integer.specs.Effects.{runs}

-- a call that does the instruction of a word, from registers r to registers next
abbrev pub Runs : InstrPpc → ℕ → Did → RegsPpc → RegsPpc → Type 0
Runs instruction word did r next = (cell : Fault) (m : Memory) → Does (runs r m word instruction) did cell r next m m
