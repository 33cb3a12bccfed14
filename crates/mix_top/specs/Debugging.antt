-- What a script of the debugger does with a program.
use Rattle.std.specs.Prelude.{◌≡◌, ℕ, pos, List, [], Option, Some, None, codes}
use Rattle.switch_frame.specs.declared.program.Program.{Program}
use Rattle.toolbox.specs.Effects.{Around}
use Rattle.mixed_machine.specs.Outside.{Between}
use Rattle.mixed_machine.specs.State.{State}
use Rattle.mix_engine.specs.Start.{start_of}
use Rattle.mix_top.specs.Events.{events_in}
use Rattle.mix_top.specs.Plays.{Played}
use Rattle.mix_top.specs.Sessions.{Session}
use Rattle.mix_top.specs.declared.command.ScriptCommand.{ScriptCommand}
use Rattle.toolbox.specs.declared.broken.Broken.{Broken}
use Rattle.mix_top.specs.Lines.{Refusal, memory_line, refusal}
use Rattle.mix_top.specs.Running.{broken_status, sinks_at}
use Rattle.mix_top.specs.World.{Beside, Early}
use Rattle.mix_top.specs.declared.ending.Ending.{Ending}

-- the number of the first line that is no command
abbrev pub script_refusal : ℕ → Refusal
script_refusal number = refusal (codes "script") (pos number)

-- a session begins in a state: no step can be taken back, and no address is set
abbrev pub session_from : State → Session
session_from state = record { state = state; past = []; breaks = [] }

-- the status where something of the outside stopped a script, or nothing did
abbrev pub script_status : Option Broken → ℕ
script_status None = 0
script_status (Some broken) = broken_status broken

-- commands were done from a state on, as far as nothing stopped them, and leave this around the machine
pub record ScriptRan (commands : List ScriptCommand) (start : State) (around : Around) (old new : Beside) (result : ℕ) : Type 0 where
  pub stop : Option Broken
  pub last : Session
  pub played : Played stop (events_in commands (session_from start)) (session_from start) last (sinks_at old) (sinks_at new)
  pub around_is : last.state.around ≡ around
  pub status : result ≡ script_status stop

-- they were done, for each outside: as the definition says, with the answers that the devices gave; the steps of a script
-- are not those of a run
pub record Scripted (commands : List ScriptCommand) (start : Around → State) (old new : Beside) (result : Ending) : Type 0 where
  pub steps : result.steps ≡ 0
  pub keep : new.keep ≡ old.keep
  pub claim : Between (λ from around. ScriptRan commands from around old new result.status) start (λ around. around) old.outside new.outside

-- the ways to end of a machine that is debugged by these commands
pub data MachineWay (commands : List ScriptCommand) (start : Around → State) (old new : Beside) (result : Ending) : Type 0 where
  -- there was no memory for the debugger
  no_debugger : Early old new memory_line 9 result → MachineWay commands start old new result
  -- the commands were done
  scripted : Scripted commands start old new result → MachineWay commands start old new result

-- and of a program
pub data ScriptWay (commands : List ScriptCommand) (program : Program) (old new : Beside) (result : Ending) : Type 0 where
  -- there was no memory for the machine
  no_machine : Early old new memory_line 9 result → ScriptWay commands program old new result
  -- it was debugged from its start
  debugged : MachineWay commands (start_of program) old new result → ScriptWay commands program old new result
