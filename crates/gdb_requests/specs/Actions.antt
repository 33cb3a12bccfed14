-- The actions of `vCont;`: one, or one and a second for the other threads; each `c`, `s`, or `C` or `S` and a signal, and maybe `:` and a thread.
-- Source: GDB manual, appendix 'GDB Remote Serial Protocol', section 'Packets', vCont.
use Rattle.std.specs.Prelude.{ℕ, ◌==◌, Bool, true, false, List, [], ◌∷◌, length, codes, bytes_eq, Option, Some, None, if◌then◌else◌}
use Rattle.gdb_packets.specs.Hex.{number_said}
use Rattle.gdb_requests.specs.Parts.{before, behind}
use Rattle.gdb_requests.specs.Threads.{thread_said}
use Rattle.gdb_requests.specs.declared.request.Id.TheVariants.{Any}
use Rattle.gdb_requests.specs.declared.request.Thread.{Thread}
use Rattle.gdb_requests.specs.declared.request.Action.{Action}
use Rattle.gdb_requests.specs.declared.request.Request.{Request}
use Rattle.gdb_requests.specs.declared.request.Request.TheVariants.{Resume, Unknown}

abbrev pub signalled : ℕ → Option ℕ → Option Bool
signalled letter None = None
signalled letter (Some n) = if letter == 67 then Some false else (if letter == 83 then Some true else None)

abbrev pub signal_step : List ℕ → Option Bool
signal_step [] = None
signal_step (letter ∷ signal) = signalled letter (number_said signal)

-- whether a word is a step
unfoldable pub step_said : List ℕ → Option Bool
step_said word = if bytes_eq word (codes "c") then Some false else (if bytes_eq word (codes "s") then Some true else signal_step word)

unfoldable pub thread_or_any : List ℕ → Option Thread
thread_or_any text = if length text == 0 then Some (record { process = Any; thread = Any }) else thread_said text

abbrev pub acting : Option Bool → Option Thread → Option Action
acting (Some s) (Some t) = Some (record { is_step = s; thread = t })
acting (Some s) None = None
acting None t = None

unfoldable pub action_said : List ℕ → Option Action
action_said text = acting (step_said (before 58 text)) (thread_or_any (behind 58 text))

abbrev pub resuming : Option Action → Request
resuming None = Unknown
resuming (Some a) = Resume a None

abbrev pub second_said : Option Action → Option Action → Request
second_said (Some a) (Some b) = Resume a (Some b)
second_said (Some a) None = Unknown
second_said None b = Unknown

unfoldable pub resume_said : List ℕ → Request
resume_said text =
    let rest = behind 59 text in
    if length rest == 0 then resuming (action_said (before 59 text))
    else (if length (behind 59 rest) == 0 then second_said (action_said (before 59 text)) (action_said (before 59 rest)) else Unknown)
