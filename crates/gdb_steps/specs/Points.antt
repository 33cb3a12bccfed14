-- What stops a walk of a debugger (gdb's manual, "Breakpoints"): addresses of code, and ranges of memory whose bytes
-- change.
use Rattle.std.specs.Prelude.{ℕ, ◌==◌, ◌&&◌, Bool, true, false, bytes_eq, if◌then◌else◌, List, [], ◌∷◌, Option, None, Some}
use Rattle.std.specs.List.{list_any}
use Rattle.big_memory.specs.Lists.{part}
use Rattle.mix_bits.specs.declared.isa.Isa.{Isa}
use Rattle.mix_bits.specs.declared.isa.Isa.TheVariants as Set
use Rattle.switch_frame.specs.declared.active.Active.{Active}
use Rattle.switch_frame.specs.Files.{pc_of}
use Rattle.switch_frame.specs.Records.{isa_of}
use Rattle.gdb_steps.specs.declared.halt.Halt.{Halt}
use Rattle.gdb_steps.specs.declared.halt.Halt.TheVariants.{Breakpoint, Watched, Arrived}
use Rattle.gdb_steps.specs.declared.halt.Until.{Until}
use Rattle.gdb_steps.specs.declared.halt.Until.TheVariants as Wanted
use Rattle.gdb_steps.specs.declared.watch.Watch.{Watch}

-- so many bytes of memory from an address on
pub record Range : Type 0 where
  pub at : ℕ
  pub count : ℕ

abbrev pub range_of : Watch → Range
range_of w = record { at = w.at; count = w.count }

abbrev pub is_same_range : Range → Range → Bool
is_same_range r s = (s.at == r.at) && (s.count == r.count)

-- the addresses that are set to stop at, and the ranges that are watched, in the order in which they were set
pub record Points : Type 0 where
  pub breaks : List ℕ
  pub watches : List Range

abbrev pub is_break : Points → ℕ → Bool
is_break p a = list_any (λ b. b == a) p.breaks

-- the address of the first range in which two memories differ
unfoldable pub first_changed : List Range → List ℕ → List ℕ → Option ℕ
first_changed [] old new = None
first_changed (r ∷ rs) old new = if bytes_eq (part r.at r.count old) (part r.at r.count new) then first_changed rs old new else Some r.at

abbrev pub is_set : Isa → Isa → Bool
is_set Set.M68 Set.M68 = true
is_set Set.Ppc Set.Ppc = true
is_set a b = false

abbrev pub halt_by : Until → Isa → Option ℕ → Option Halt
halt_by until set (Some a) = Some (Watched a)
halt_by Wanted.Stopped set None = None
halt_by (Wanted.Active wanted) set None = if is_set wanted set then Some Arrived else None

-- what stops a walk where memory was one and is another now, and code goes on with these registers
abbrev pub halt_at : Points → Until → List ℕ → List ℕ → Active → Option Halt
halt_at p until old new file = if is_break p (pc_of file) then Some Breakpoint else halt_by until (isa_of file) (first_changed p.watches old new)
