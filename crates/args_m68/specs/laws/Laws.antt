-- Laws of what a callee is handed.
use Rattle.std.specs.Prelude.{◌≡◌, ℕ, ◌≤◌, true, List, length, slice_index, Option, Some, is_some, Ok}
use Rattle.mix_bits.specs.Sizes.{truncated}
use Rattle.big_memory.specs.Memory.{Memory, IsRam}
use Rattle.big_memory.specs.laws.Stores.{IsSameBeside}
use Rattle.proc_info.specs.Codes.{is_dispatched}
use Rattle.proc_info.specs.Cut.{cut}
use Rattle.proc_info.specs.Rules.{KeepsRules}
use Rattle.proc_info.specs.Signature.{Signature}
use Rattle.proc_info.specs.Routes.{route_of}
use Rattle.args_m68.specs.Gather.{selector_in, values_at}
use Rattle.args_m68.specs.Deliver.{below, callee_base, callee_registers, stack_of}
use Rattle.args_m68.specs.DeliverClauses.{callee_sp, delivered}

-- a callee may be handed these values, and a selector if one is passed, on a stack that ends at lo
pub record MayBeHanded (sig : Signature) (selector : Option ℕ) (values : List ℕ) (lo : ℕ) (m : Memory) : Type 0 where
  pub rules : KeepsRules sig
  pub count : length values ≡ length sig.params
  pub room : below sig (is_some selector) ≤ lo
  pub inside : lo ≤ length m.bytes
  pub ram : IsRam m

-- what it was handed reads back as the values cut to their sizes, by the places that a callee looks at
abbrev pub ComesBack : Type 0
ComesBack =
    (sig : Signature) (selector : Option ℕ) (values : List ℕ) (lo a5 target : ℕ) (m : Memory) → MayBeHanded sig selector values lo m
    → values_at (callee_registers sig selector values a5 (callee_sp sig selector lo) target) (delivered sig selector values lo m) (route_of sig.conv) (callee_base sig (is_some selector)) sig.params
    ≡ Ok (cut sig.params values)

-- and so does its selector
abbrev pub SelectorComesBack : Type 0
SelectorComesBack =
    (sig : Signature) (v : ℕ) (values : List ℕ) (lo a5 target : ℕ) (m : Memory) → MayBeHanded sig (Some v) values lo m → is_dispatched sig.conv ≡ true
    → selector_in sig (callee_registers sig (Some v) values a5 (callee_sp sig (Some v) lo) target) (delivered sig (Some v) values lo m) ≡ Ok (truncated v sig.selector)

-- its stack has as many bytes as it is said to take
abbrev pub FillsItsStack : Type 0
FillsItsStack =
    (sig : Signature) (selector : Option ℕ) (values : List ℕ) → length values ≡ length sig.params → length (stack_of sig selector values) ≡ below sig (is_some selector)

-- no byte of memory changes but those from its stack pointer up to lo
abbrev pub TouchesNothingElse : Type 0
TouchesNothingElse =
    (sig : Signature) (selector : Option ℕ) (values : List ℕ) (lo : ℕ) (m : Memory) → MayBeHanded sig selector values lo m
    → IsSameBeside (callee_sp sig selector lo) lo m (delivered sig selector values lo m)

-- A7 is at its stack
abbrev pub BeginsAtItsStack : Type 0
BeginsAtItsStack =
    (sig : Signature) (selector : Option ℕ) (values : List ℕ) (a5 sp target : ℕ) → slice_index (callee_registers sig selector values a5 sp target).a 7 ≡ sp
