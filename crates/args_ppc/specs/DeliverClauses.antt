-- What a PowerPC callee is given below its frame: its stack pointer and its memory.
use Rattle.std.specs.Prelude.{ℕ, ◌-◌, Bool, if◌then◌else◌, is_some, List, Option}
use Rattle.big_memory.specs.Memory.{Memory, with_bytes}
use Rattle.proc_info.specs.Signature.{Signature}
use Rattle.args_ppc.specs.Deliver.{below, callee_words, frame_of}

-- how many words a callee is passed before its parameters: its selector or none
abbrev pub first_param : Bool → ℕ
first_param passed = if passed then 1 else 0

-- a callee's stack pointer, its registers, and the memory that it is given: its stack ends at lo
abbrev pub callee_sp : Signature → Option ℕ → ℕ → ℕ
callee_sp sig selector lo = lo - below sig (is_some selector)

abbrev pub delivered : Signature → Option ℕ → List ℕ → ℕ → Memory → Memory
delivered sig selector values lo m = with_bytes (callee_sp sig selector lo) (frame_of (callee_words sig selector values)) m
