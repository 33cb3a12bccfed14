-- A step that ends with the next instruction.
use Rattle.mix_bits.specs.declared.fault.Fault.{Fault}
use Rattle.big_memory.specs.Memory.{Memory}
use Rattle.big_memory.specs.StepsClauses.{Does}
use Rattle.big_memory.specs.declared.steps.Did.{Did}
use Rattle.ppc_isa.specs.declared.registers.RegsPpc.{RegsPpc}
use Rattle.ppc_integer.specs.Effects.{goes_on}

-- a call that ends a step with these registers: the next instruction follows
abbrev pub Ends : RegsPpc → Did → RegsPpc → Type 0
Ends changed did next = (cell : Fault) (start : RegsPpc) (m : Memory) → Does (goes_on m changed) did cell start next m m
