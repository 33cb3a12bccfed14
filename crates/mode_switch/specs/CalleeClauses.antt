-- The memory that a callee is given.
use Rattle.std.specs.Prelude.{ℕ, List, Option}
use Rattle.mix_bits.specs.declared.isa.Isa.{Isa}
use Rattle.big_memory.specs.Memory.{Memory, with_bytes}
use Rattle.proc_info.specs.Signature.{Signature}
use Rattle.mode_switch.specs.Callee.{callee_sp, stack_of}

-- the memory that it is given
abbrev pub delivered : Isa → Signature → Option ℕ → List ℕ → ℕ → Memory → Memory
delivered set sig selector values lo m = with_bytes (callee_sp set sig selector lo) (stack_of set sig selector values) m
