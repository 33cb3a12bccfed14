-- gdb's walks as those of a walker, and how gdb is told of their ends.
-- Source: GDB manual, appendix 'GDB Remote Serial Protocol', sections 'Packets' and 'Stop Reply Packets'.
use Rattle.std.specs.Prelude.{ℕ, not, Bool, true, false}
use Rattle.gdb_answers.specs.declared.stops.Reason.{Reason}
use Rattle.gdb_answers.specs.declared.stops.Reason.TheVariants.{Stepped, Changed, Begins, Faults, Interrupted}
use Rattle.gdb_answers.specs.declared.stops.Reason.TheVariants as Why
use Rattle.gdb_session.specs.declared.target.Halt.{Halt}
use Rattle.gdb_session.specs.declared.target.Halt.TheVariants.{Stopped, Exit}
use Rattle.gdb_steps.specs.declared.halt.Halt.{Halt as Came}
use Rattle.gdb_steps.specs.declared.halt.Halt.TheVariants.{Breakpoint, Watched, Arrived, Spent, Beginning, End, Strayed}
use Rattle.gdb_steps.specs.declared.halt.Until.{Until}
use Rattle.gdb_steps.specs.declared.halt.Until.TheVariants as Wanted
use Rattle.gdb_talk.specs.declared.deed.Goal.{Goal}
use Rattle.gdb_talk.specs.declared.deed.Goal.TheVariants.{Stop, Step, StepOf}
use Rattle.mixed_machine.specs.declared.stop.Stop.{Stop as MachineStop}
use Rattle.mixed_machine.specs.declared.stop.Stop.TheVariants as By

-- a step of a process lasts until its set is active
abbrev pub until_of : Goal → Until
until_of Stop = Wanted.Stopped
until_of Step = Wanted.Stopped
until_of (StepOf set) = Wanted.Active set

abbrev pub steps_of : Goal → ℕ → ℕ
steps_of Stop budget = budget
steps_of Step budget = 1
steps_of (StepOf set) budget = budget

-- where all steps are done: the one that was asked for, or as many as a walk may have
abbrev pub spent : Goal → Reason
spent Stop = Interrupted
spent Step = Stepped
spent (StepOf set) = Interrupted

abbrev pub ended : MachineStop → Halt
ended (By.Exit code) = Exit code
ended (By.Fault fault) = Stopped (Faults fault)
ended _ = Stopped Interrupted

abbrev pub halt_of : Goal → Came → Halt
halt_of goal Breakpoint = Stopped Why.Breakpoint
halt_of goal (Watched address) = Stopped (Changed address)
halt_of goal Arrived = Stopped Stepped
halt_of goal Spent = Stopped (spent goal)
halt_of goal Beginning = Stopped Begins
halt_of goal (End stop) = ended stop
halt_of goal Strayed = Stopped Interrupted

-- a walk came to the end of the program
abbrev pub ends : MachineStop → Bool
ends (By.Exit code) = true
ends (By.Fault fault) = true
ends _ = false

abbrev pub is_end : Came → Bool
is_end (End stop) = ends stop
is_end _ = false

-- its output or its trace failed, which they do only for want of memory
abbrev pub is_cut : Came → Bool
is_cut (End stop) = not (ends stop)
is_cut _ = false
