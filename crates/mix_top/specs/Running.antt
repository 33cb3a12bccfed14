-- The ways in which a run ends, and what its last line and its status tell.
use Rattle.std.specs.Prelude.{◌≡◌, ℕ, ◌-◌, ◌≤◌, ◌==◌, List, Option, Some, if◌then◌else◌}
use Rattle.mix_io.specs.Streams.{Grows}
use Rattle.switch_frame.specs.Records.{isa_of}
use Rattle.toolbox.specs.declared.broken.Broken.{Broken}
use Rattle.toolbox.specs.declared.broken.Broken.TheVariants.{Input, Output, Trace}
use Rattle.toolbox.specs.Effects.{Around}
use Rattle.call_trace.specs.Lines.{end_line}
use Rattle.mixed_machine.specs.State.{State}
use Rattle.mixed_machine.specs.declared.stop.Stop.{Stop}
use Rattle.mixed_machine.specs.Counts.{broken_at}
use Rattle.mixed_machine.specs.Exec.{How, exec, log, said_of, line_of}
use Rattle.mixed_machine.specs.Exec.How.{Limited, Exited, Faulted}
use Rattle.mixed_machine.specs.Exec.End.{Ended}
use Rattle.mixed_machine.specs.Endings.{end_of}
use Rattle.mixed_machine.specs.Outside.{Between}
use Rattle.mixed_machine.specs.Runs.{Ran, Sinks, Stops}
use Rattle.mix_top.specs.World.{Beside, Closes}
use Rattle.mix_top.specs.Keeping.{KeepsPart, KeptAt, Spells}
use Rattle.mix_top.specs.declared.ending.Ending.{Ending}

-- the status of a run that ended: 0 or 1 for an exit, 10 for a fault, 11 for the step limit
abbrev pub status_of : How → ℕ
status_of Limited = 11
status_of (Exited code) = if code == 0 then 0 else 1
status_of (Faulted fault) = 10

-- the status where something of the outside failed
abbrev pub broken_status : Broken → ℕ
broken_status Input = 5
broken_status Output = 6
broken_status Trace = 7

-- where a call puts its output and its trace
abbrev pub sinks_at : Beside → Sinks
sinks_at w = record { out = w.outside.out; trace = w.trace }

-- the ways in which a run of at most so many steps ends that starts in a state, and leaves this around it, with the number
-- of those that were done; at the step limit it is kept under the name that is given
pub data RunWay (save : Option (List ℕ)) (steps : ℕ) (start : State) (around : Around) (old new : Beside) (result : Ending) : Type 0 where
  -- it came to its end, what is to be kept was kept, and then the end line was put
  ended : (last : State) (how : How)
      → result.steps ≤ steps → exec steps start ≡ Ended how last (steps - result.steps) → last.around ≡ around
      → Grows old.outside.out new.outside.out (log said_of result.steps start)
      → KeptAt save how last old.keep new.keep
      → Closes old.trace new.trace (log line_of result.steps start) (end_line (end_of (isa_of last.active) how)) (status_of how) result.status
      → RunWay save steps start around old new result
  -- the keeper failed at the spelling, of which a beginning was kept; no end line is written
  keep_failed : (name bytes : List ℕ) (last : State) → save ≡ Some name
      → result.steps ≤ steps → Ran 0 steps (steps - result.steps) start last Limited (sinks_at old) (sinks_at new) → last.around ≡ around
      → Spells last bytes → KeepsPart name bytes old.keep new.keep → result.status ≡ 8
      → RunWay save steps start around old new result
  -- the input, the output or the trace failed at a step, of those allowed, and stopped it; no end line is written
  broke : (stop : Stop) (broken : Broken) (last : State) → broken_at stop ≡ Some broken
      → result.steps ≤ steps → Stops 0 steps (steps - result.steps) start last (sinks_at old) (sinks_at new) stop → last.around ≡ around
      → new.keep ≡ old.keep → result.status ≡ broken_status broken
      → RunWay save steps start around old new result

-- a machine ran from this state, for each outside: as the definition says, with the answers that the devices gave
abbrev pub MachineRan : Option (List ℕ) → (Around → State) → ℕ → Beside → Beside → Ending → Type 0
MachineRan save start steps old new result =
    Between (λ from around. RunWay save steps from around old new result) start (λ around. around) old.outside new.outside
