-- The fault of one instruction.
use Rattle.std.specs.Prelude.{ℕ}
use Rattle.mix_bits.specs.declared.fault.Fault.{Fault}
use Rattle.mix_bits.specs.declared.fault.FaultKind.{FaultKind}

-- a fault of the instruction at pc that tells one number
abbrev pub fault_at : ℕ → FaultKind → ℕ → Fault
fault_at pc kind detail = record { kind = kind; pc = pc; detail = detail; also = 0 }
