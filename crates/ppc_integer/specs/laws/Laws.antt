-- What holds of every step.
use Rattle.std.specs.Prelude.{◌≡◌, ℕ, Some}
use Rattle.big_memory.specs.Map.{host_code}
use Rattle.big_memory.specs.Memory.{Memory}
use Rattle.big_memory.specs.Steps.After.{Leaves}
use Rattle.ppc_isa.specs.declared.registers.RegsPpc.{RegsPpc}
use Rattle.ppc_integer.specs.Effects.{stepped}

-- no instruction leaves the set: a step leaves it only at the code address of a host function, by that function's number
abbrev pub LeavesAtHostCode : Type 0
LeavesAtHostCode = (r : RegsPpc) (m : Memory) (k : ℕ) → stepped r m ≡ Leaves k → host_code r.pc ≡ Some k
