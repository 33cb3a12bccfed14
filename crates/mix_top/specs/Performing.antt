-- A debugger that does events, or a script.
use Rattle.std.specs.Prelude.{List, Option, Result}
use Rattle.mix_top.specs.Sessions.{Session}
use Rattle.mix_top.specs.Events.{Event, events_in}
use Rattle.mix_top.specs.Places.{Over, Place, sinks_in, stop_in}
use Rattle.mix_top.specs.declared.command.ScriptCommand.{ScriptCommand}
use Rattle.toolbox.specs.declared.broken.Broken.{Broken}
use Rattle.mix_top.specs.Plays.{Played}

-- a debugger did the events that a list gives for each session
abbrev pub Does : (Session → List Event) → Place → Place → Option Broken → Type 0
Does events a b stop = Over stop (λ s t. Played stop (events s) s t (sinks_in a) (sinks_in b)) a b

-- it ran a script
abbrev pub Plays : List ScriptCommand → Place → Place → Result (Unit {0}) Broken → Type 0
Plays commands a b result = Does (events_in commands) a b (stop_in result)
