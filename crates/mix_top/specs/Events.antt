-- What the commands of a script do: the events of a session, one after the other.
use Rattle.std.specs.Prelude.{ℕ, zero, suc, ◌==◌, nat_le, nat_lt, not, ◌&&◌, Bool, true, false, if◌then◌else◌, List, [], ◌∷◌, ◌++◌, length, filter, Option, Some, None, codes, decimal}
use Rattle.std.specs.List.{list_any}
use Rattle.mix_bits.specs.Text.{hexadecimal}
use Rattle.switch_frame.specs.declared.active.Active.{Active}
use Rattle.switch_frame.specs.Files.{pc_of}
use Rattle.switch_frame.specs.Records.{isa_of}
use Rattle.call_trace.specs.Lines.{end_line}
use Rattle.call_trace.specs.Names.{set_name}
use Rattle.call_trace.specs.declared.end.End.{End}
use Rattle.call_trace.specs.declared.end.End.TheVariants.{Exit, Fault}
use Rattle.mixed_machine.specs.Next.{Next, Effects}
use Rattle.mixed_machine.specs.Next.Next.{Goes, Exits, Faults}
use Rattle.mixed_machine.specs.State.{State}
use Rattle.mixed_machine.specs.Step.{step}
use Rattle.mix_debug.specs.Crawl.{caller_lines, here_line}
use Rattle.mix_top.specs.Sessions.{Past, Session, returned, stepped}
use Rattle.mix_top.specs.declared.command.ScriptCommand.{ScriptCommand}
use Rattle.mix_top.specs.declared.command.ScriptCommand.TheVariants.{Step, Over, Go, Back, Break, Clear, Where}
use Rattle.mix_top.specs.declared.walk.Until.{Until}
use Rattle.mix_top.specs.declared.walk.Until.TheVariants.{Count, Breakpoint, Frames}

-- what it puts on the output and on the trace, whether it reads the input, and the session after it
pub record Event : Type 0 where
  pub said : List ℕ
  pub line : List ℕ
  pub reads : Bool
  pub after : Session

-- a text on the trace
abbrev pub tells : List ℕ → Session → Event
tells text s = record { said = []; line = text; reads = false; after = s }

-- a step to a state, and a step back, which puts nothing
abbrev pub steps_to : Session → State → Effects → Event
steps_to s t effects = record { said = effects.said; line = effects.line; reads = effects.reads; after = stepped s t }

abbrev pub goes_back : Session → Past → List Past → Event
goes_back s p ps = record { said = []; line = []; reads = false; after = returned s p ps }

-- the session after events
unfoldable pub after : Session → List Event → Session
after s [] = s
after s (e ∷ es) = after e.after es

-- what they put on the output, and on the trace
unfoldable pub said_by : List Event → List ℕ
said_by [] = []
said_by (e ∷ es) = e.said ++ said_by es

unfoldable pub lines_by : List Event → List ℕ
lines_by [] = []
lines_by (e ∷ es) = e.line ++ lines_by es

-- ---- steps of a command, and the end of the program, where they came to it

pub record Walk : Type 0 where
  pub steps : List Event
  pub ending : Option End

abbrev pub halts : Option End → Walk
halts ending = record { steps = []; ending = ending }

-- one more in front
abbrev pub onward : Event → Walk → Walk
onward e w = record { steps = e ∷ w.steps; ending = w.ending }

-- whether a command that ends before its count does so in this session: at an address that is set to stop at, or where no
-- more than so many frames are live
abbrev pub stops : Until → Session → Bool
stops Count s = false
stops Breakpoint s = list_any (λ b. b == pc_of s.state.active) s.breaks
stops (Frames most) s = nat_le (length s.state.callers) most

abbrev pub walk_by : Until → Session → Next → (Session → Walk) → Walk
walk_by until s (Goes t effects) rest = onward (steps_to s t effects) (if stops until (stepped s t) then halts None else rest (stepped s t))
walk_by until s (Exits code) rest = halts (Some (Exit code))
walk_by until s (Faults fault) rest = halts (Some (Fault (isa_of s.state.active) fault))

-- up to so many steps forward
unfoldable pub forward : Until → ℕ → Session → Walk
forward until zero s = halts None
forward until (suc n) s = walk_by until s (step s.state) (forward until n)

abbrev pub back_by : Session → List Past → (Session → Walk) → Walk
back_by s [] rest = halts None
back_by s (p ∷ ps) rest = onward (goes_back s p ps) (rest (returned s p ps))

-- up to so many steps back
unfoldable pub backward : ℕ → Session → Walk
backward zero s = halts None
backward (suc n) s = back_by s s.past (backward n)

-- ---- texts of the trace

-- `at SET PC K`: where the code is, after so many steps
unfoldable pub at_line : ℕ → Active → List ℕ
at_line count file =
    codes "at " ++ set_name (isa_of file) ++ codes " " ++ hexadecimal 8 (pc_of file) ++ codes " " ++ decimal count ++ codes "\n"

abbrev pub answer : Bool → List ℕ
answer true = codes "yes\n"
answer false = codes "no\n"

-- where the code is, and each suspended caller
abbrev pub crawl_in : State → List ℕ
crawl_in s = here_line s.active ++ caller_lines 1 s.callers

-- the end line, where the program ended
abbrev pub end_events : Option End → Session → List Event
end_events None s = []
end_events (Some end) s = tells (end_line end) s ∷ []

-- steps, and what is told behind them: an end is not counted
abbrev pub told_behind : Option End → ℕ → Session → List Event
told_behind ending count s = end_events ending s ++ (tells (at_line count s.state.active) s ∷ [])

abbrev pub told : Session → Walk → List Event
told s w = w.steps ++ told_behind w.ending (length w.steps) (after s w.steps)

-- ---- commands

abbrev pub is_set : Session → ℕ → Bool
is_set s a = list_any (λ b. b == a) s.breaks

-- at most 64 addresses are set
abbrev pub can_set : Session → ℕ → Bool
can_set s a = not (is_set s a) && nat_lt (length s.breaks) 64

abbrev pub events_of : ScriptCommand → Session → List Event
events_of (Step n) s = told s (forward Count n s)
events_of (Over n) s = told s (forward (Frames (length s.state.callers)) n s)
events_of (Go n) s = told s (forward Breakpoint n s)
events_of (Back n) s = told s (backward n s)
events_of (Break a) s = tells (answer (can_set s a)) (record s { breaks = if can_set s a then s.breaks ++ a ∷ [] else s.breaks }) ∷ []
events_of (Clear a) s = tells (answer (is_set s a)) (record s { breaks = filter (λ b. not (b == a)) s.breaks }) ∷ []
events_of Where s = tells (crawl_in s.state) s ∷ []

-- the events of a script: those of each command, in the session after the commands before it
unfoldable pub events_in : List ScriptCommand → Session → List Event
events_in [] s = []
events_in (c ∷ cs) s = events_of c s ++ events_in cs (after s (events_of c s))
