-- What the calls on frames answer and leave.
use Rattle.std.specs.Prelude.{◌≡◌, ℕ, suc, ◌+◌, ◌-◌, ◌/◌, ◌%◌, ◌<◌, ◌≤◌, Bool, false, List, [], ◌∷◌, length, replicate, Option, Some, None}
use Rattle.big_memory.specs.Memory.{Memory, floor_of, with_bytes}
use Rattle.big_memory.specs.MemoryClauses.{with_marks}
use Rattle.switch_frame.specs.declared.active.Active.{Active}
use Rattle.switch_frame.specs.declared.kind.Kind.{Kind}
use Rattle.switch_frame.specs.declared.held.Held.{Held}
use Rattle.switch_frame.specs.Sets.{caller_isa, callee_isa, frame_size}
use Rattle.switch_frame.specs.Records.{Record, isa_of}
use Rattle.switch_frame.specs.RecordsClauses.{held_of}
use Rattle.switch_frame.specs.Chain.{most_frames}
use Rattle.switch_frame.specs.Calls.{is_crossed}

-- the innermost caller, with its depth
abbrev pub innermost : List Record → Option Held
innermost [] = None
innermost (r ∷ rs) = Some (held_of r (suc (length rs)))

-- a range that such a call gives for a kind
pub record IsPlace (m : Memory) (rs : List Record) (kind : Kind) (lo hi : ℕ) : Type 0 where
  pub few : length rs < most_frames
  pub aligned : hi % 16 ≡ 0
  pub size : hi ≡ lo + frame_size (caller_isa kind)
  pub stack : floor_of m ≤ lo
  pub within : hi ≤ length m.bytes
  pub below : is_crossed rs hi ≡ false

-- the caller is of the set that the innermost frame's caller called, where a frame is live
abbrev pub IsCalled : Active → List Record → Type 0
IsCalled caller [] = Unit {0}
IsCalled caller (r ∷ rs) = callee_isa r.kind ≡ isa_of caller

-- the memory with a frame's bytes, and its guard, replaced
abbrev pub with_frame : ℕ → ℕ → List ℕ → Bool → Memory → Memory
with_frame lo hi bytes on m = with_marks (lo / 16) (replicate ((hi - lo) / 16) on) (with_bytes lo bytes m)
