-- Laws of what a PowerPC callee is handed.
use Rattle.std.specs.Prelude.{◌≡◌, ℕ, ◌≤◌, List, length, slice_index, Option, Some, is_some, Ok}
use Rattle.mix_bits.specs.Sizes.{truncated}
use Rattle.big_memory.specs.Memory.{Memory, IsRam}
use Rattle.big_memory.specs.laws.Stores.{IsSameBeside}
use Rattle.proc_info.specs.Cut.{cut}
use Rattle.proc_info.specs.Signature.{Signature}
use Rattle.ppc_isa.specs.declared.registers.RegsPpc.{RegsPpc}
use Rattle.args_ppc.specs.Words.{value_at, values_at}
use Rattle.args_ppc.specs.Results.{result_in, with_result}
use Rattle.args_ppc.specs.Deliver.{below, callee_registers, callee_words, frame_of}
use Rattle.args_ppc.specs.DeliverClauses.{first_param, callee_sp, delivered}

-- a callee may be handed these values, and a selector if one is passed, on a stack that ends at lo
pub record MayBeHanded (sig : Signature) (selector : Option ℕ) (values : List ℕ) (lo : ℕ) (m : Memory) : Type 0 where
  pub count : length values ≡ length sig.params
  pub room : below sig (is_some selector) ≤ lo
  pub inside : lo ≤ length m.bytes
  pub ram : IsRam m

-- what it was handed reads back as the values cut to their sizes, by the words that a callee looks at
abbrev pub ComesBack : Type 0
ComesBack =
    (sig : Signature) (selector : Option ℕ) (values : List ℕ) (lo code toc : ℕ) (m : Memory) → MayBeHanded sig selector values lo m
    → values_at (callee_registers sig selector values (callee_sp sig selector lo) code toc) (delivered sig selector values lo m) (first_param (is_some selector)) sig.params
    ≡ Ok (cut sig.params values)

-- and its selector is its first word
abbrev pub SelectorComesBack : Type 0
SelectorComesBack =
    (sig : Signature) (v : ℕ) (values : List ℕ) (lo code toc : ℕ) (m : Memory)
    → value_at (callee_registers sig (Some v) values (callee_sp sig (Some v) lo) code toc) (delivered sig (Some v) values lo m) 0 sig.selector ≡ Ok (truncated v sig.selector)

-- its stack has as many bytes as it is said to take
abbrev pub FillsItsStack : Type 0
FillsItsStack =
    (sig : Signature) (selector : Option ℕ) (values : List ℕ) → length values ≡ length sig.params
    → length (frame_of (callee_words sig selector values)) ≡ below sig (is_some selector)

-- no byte of memory changes but those from its stack pointer up to lo
abbrev pub TouchesNothingElse : Type 0
TouchesNothingElse =
    (sig : Signature) (selector : Option ℕ) (values : List ℕ) (lo : ℕ) (m : Memory) → MayBeHanded sig selector values lo m
    → IsSameBeside (callee_sp sig selector lo) lo m (delivered sig selector values lo m)

-- r1 is at its stack
abbrev pub BeginsAtItsStack : Type 0
BeginsAtItsStack =
    (sig : Signature) (selector : Option ℕ) (values : List ℕ) (sp code toc : ℕ) → slice_index (callee_registers sig selector values sp code toc).gpr 1 ≡ sp

-- a result that a caller is given is the one that it finds, cut to its size
abbrev pub ResultComesBack : Type 0
ResultComesBack = (sig : Signature) (v : ℕ) (r : RegsPpc) → length r.gpr ≡ 32 → result_in sig (with_result sig v r) ≡ truncated v sig.result
