-- Crossings: 68K code calls PowerPC or CFM-68K code, or PowerPC code calls by CallUniversalProc. The caller is suspended
-- in a switch frame, and the callee starts with a fresh register file
-- (Inside Macintosh: PowerPC System Software, chapter 2; the order of the tests is this project's own).
use Rattle.std.specs.Prelude.{ℕ, ◌-◌, ◌∷◌, ◌++◌, is_some, unwrap_or, Result, Ok, Err}
use Rattle.mix_bits.specs.declared.fault.FaultKind.TheVariants.{FramesFull, StackOutside, StackCrossed, StackFull}
use Rattle.big_memory.specs.declared.refusals.Access.{Access}
use Rattle.big_memory.specs.Lists.{put}
use Rattle.big_memory.specs.Memory.{floor_of}
use Rattle.switch_frame.specs.declared.full.Full.{Full}
use Rattle.switch_frame.specs.declared.full.Full.TheVariants.{Frames, Outside, Crossed, Stack}
use Rattle.switch_frame.specs.Sets.{callee_isa}
use Rattle.switch_frame.specs.Files.{at_pc, sp_of}
use Rattle.switch_frame.specs.Records.{Record}
use Rattle.switch_frame.specs.Chain.{most_frames}
use Rattle.big_memory.specs.Lists.{zeros}
use Rattle.switch_frame.specs.Calls.{room_of}
use Rattle.mode_switch.specs.Wanted.{Crossing, Want, address_of, passed_selector}
use Rattle.mode_switch.specs.Wanted.Want.{Calls, Jumps, Refuses}
use Rattle.mode_switch.specs.Passed.{Passage, passed}
use Rattle.mode_switch.specs.Callee.{below, callee_sp, stack_of, fresh, return_sp}
use Rattle.call_trace.specs.Lines.{call_line}
use Rattle.mixed_machine.specs.State.{State, seen, with_active}
use Rattle.mixed_machine.specs.Next.{Next, faults, access_fault, quiet, traced}
use Rattle.mixed_machine.specs.Next.Next.{Goes, Faults}

-- the callee's stack pointer, in a frame of this range
abbrev pub sp_in : Crossing → ℕ × ℕ → ℕ
sp_in c range = callee_sp (callee_isa c.kind) c.sig (passed_selector c) range.0

-- the caller with the registers that it has behind the call, suspended in the frame of this range
abbrev pub suspended : Crossing → ℕ × ℕ → Passage → Record
suspended c range p =
    record {
      kind = c.kind;
      caller = p.caller;
      info = c.info;
      selector = unwrap_or c.selector 0;
      target = address_of c.target;
      lo = range.0;
      hi = range.1;
      want = return_sp (callee_isa c.kind) c.sig (passed_selector c) (sp_in c range);
    }

-- the state in which the callee starts: its stack ends where the frame begins, and in the memory beside the frames
-- the frame's range is 0
abbrev pub entered : State → Crossing → ℕ × ℕ → Passage → State
entered s c range p =
    record s {
      memory = put (sp_in c range) (stack_of (callee_isa c.kind) c.sig (passed_selector c) p.args ++ zeros (range.1 - range.0)) s.memory;
      active = fresh (callee_isa c.kind) c.sig (passed_selector c) p.args (sp_in c range) p.entry;
      callers = suspended c range p ∷ s.callers;
    }

-- once all that the caller passes was read
abbrev pub enters_with : State → Crossing → ℕ × ℕ → Result Passage Access → Next
enters_with s c range (Ok p) = Goes (entered s c range p) (traced (call_line (suspended c range p) c.sig p.args))
enters_with s c range (Err e) = access_fault s e

abbrev pub full_fault : State → Full → Next
full_fault s Frames = faults s FramesFull most_frames 0
full_fault s (Outside sp) = faults s StackOutside sp (floor_of (seen s))
full_fault s (Crossed lo) = faults s StackCrossed (sp_of s.active) lo
full_fault s (Stack sp) = faults s StackFull sp (floor_of (seen s))

-- once there is room for the frame
abbrev pub enters_in : State → Crossing → Result (ℕ × ℕ) Full → Next
enters_in s c (Ok range) = enters_with s c range (passed (seen s) s.a5 s.active c)
enters_in s c (Err full) = full_fault s full

unfoldable pub enters : State → Crossing → Next
enters s c =
    enters_in s c (room_of (seen s) s.callers (sp_of s.active) c.kind (below (callee_isa c.kind) c.sig (is_some (passed_selector c))))

-- what a caller wants: a call with a frame, a jump to code of its own set, or what can't be done
abbrev pub crosses : State → Want → Next
crosses s (Calls c) = enters s c
crosses s (Jumps pc) = Goes (with_active (at_pc pc s.active) s) quiet
crosses s (Refuses fault) = Faults fault
