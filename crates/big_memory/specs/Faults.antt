-- The fault of a refused access.
use Rattle.std.specs.Prelude.{ℕ}
use Rattle.mix_bits.specs.declared.fault.Fault.{Fault}
use Rattle.mix_bits.specs.Faults.{fault_at}
use Rattle.mix_bits.specs.declared.fault.FaultKind.TheVariants.{Outside as IsOutside, GateStore, FrameStore}
use Rattle.big_memory.specs.declared.refusals.Access.{Access}
use Rattle.big_memory.specs.declared.refusals.Access.TheVariants.{Outside, Gate, Frame}

-- an access that the instruction at pc was refused
abbrev pub fault_of : ℕ → Access → Fault
fault_of pc (Outside a) = fault_at pc IsOutside a
fault_of pc (Gate a) = fault_at pc GateStore a
fault_of pc (Frame a) = fault_at pc FrameStore a
