-- What a step does, and the faults of a step.
use Rattle.std.specs.Prelude.{ℕ, Bool, false, List, []}
use Rattle.mix_bits.specs.declared.fault.Fault.{Fault}
use Rattle.mix_bits.specs.declared.fault.FaultKind.{FaultKind}
use Rattle.big_memory.specs.declared.refusals.Access.{Access}
use Rattle.big_memory.specs.Faults.{fault_of}
use Rattle.switch_frame.specs.Files.{pc_of}
use Rattle.mixed_machine.specs.State.{State}

-- what is seen of a step from outside: what it puts on the output and on the trace, and whether it reads the input
pub record Effects : Type 0 where
  pub said : List ℕ
  pub line : List ℕ
  pub reads : Bool

abbrev pub quiet : Effects
quiet = record { said = []; line = []; reads = false }

abbrev pub traced : List ℕ → Effects
traced line = record { said = []; line = line; reads = false }

-- a step goes on to a state, with its effects; or it ends the run, and the state stays as it is
pub data Next : Type 0 where
  Goes : (next : State) (effects : Effects) → Next
  Exits : (code : ℕ) → Next
  Faults : (fault : Fault) → Next

-- a fault of the instruction at pc
abbrev pub faults : State → FaultKind → ℕ → ℕ → Next
faults s kind detail also = Faults (record { kind = kind; pc = pc_of s.active; detail = detail; also = also })

-- an access that was refused
abbrev pub access_fault : State → Access → Next
access_fault s e = Faults (fault_of (pc_of s.active) e)
