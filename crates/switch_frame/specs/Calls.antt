-- What the calls on a chain answer.
use Rattle.std.specs.Prelude.{◌≡◌, ℕ, ◌-◌, ◌%◌, ◌==◌, nat_lt, Bool, false, ◌||◌, if◌then◌else◌, List, [], ◌∷◌, length, Result, Ok, Err}
use Rattle.mix_bits.specs.declared.isa.Isa.{Isa}
use Rattle.big_memory.specs.Memory.{Memory, floor_of}
use Rattle.switch_frame.specs.declared.kind.Kind.{Kind}
use Rattle.switch_frame.specs.declared.full.Full.{Full}
use Rattle.switch_frame.specs.declared.full.Full.TheVariants.{Frames, Outside, Crossed, Stack}
use Rattle.switch_frame.specs.Sets.{caller_isa, callee_isa, frame_size}
use Rattle.switch_frame.specs.Records.{Record}
use Rattle.switch_frame.specs.Chain.{outer_of, most_frames}

-- whether a stack pointer stands above the innermost frame's lo
abbrev pub is_crossed : List Record → ℕ → Bool
is_crossed [] sp = false
is_crossed (r ∷ rs) sp = nat_lt r.lo sp

-- where the frame of a caller with this stack pointer begins and ends
abbrev pub hi_of : ℕ → ℕ
hi_of sp = sp - sp % 16

abbrev pub lo_of : Kind → ℕ → ℕ
lo_of kind sp = hi_of sp - frame_size (caller_isa kind)

-- the range of a new frame, or the first refusal: so many frames are live already; the stack pointer is not in the
-- stack; it is above the innermost frame; the callee, whose stack pointer is `below` bytes below the frame, would
-- leave the stack
abbrev pub room_of : Memory → List Record → ℕ → Kind → ℕ → Result (ℕ × ℕ) Full
room_of m rs sp kind below =
    if length rs == most_frames then Err Frames
    else (if nat_lt sp (floor_of m) || nat_lt (length m.bytes) sp then Err (Outside sp)
    else (if is_crossed rs sp then Err (Crossed (outer_of rs))
    else (if nat_lt (lo_of kind sp - below) (floor_of m) then Err (Stack (lo_of kind sp - below))
    else Ok (lo_of kind sp, hi_of sp))))

-- the set of the innermost caller's callee, or that of the main program
abbrev pub active_set : Isa → List Record → Isa
active_set main [] = main
active_set main (r ∷ rs) = callee_isa r.kind

-- the outermost caller is of the main program's set
abbrev pub IsOutermost : Isa → List Record → Type 0
IsOutermost main [] = Unit {0}
IsOutermost main (r ∷ []) = caller_isa r.kind ≡ main
IsOutermost main (r ∷ s ∷ rs) = IsOutermost main (s ∷ rs)
