-- What is told on the console behind a program's output: its end, once; that a walk was cut, and how to have longer ones.
use Rattle.std.specs.Prelude.{ℕ, Bool, List, [], ◌++◌, codes, decimal, if◌then◌else◌}
use Rattle.mix_bits.specs.declared.isa.Isa.{Isa}
use Rattle.call_trace.specs.Lines.{end_line}
use Rattle.call_trace.specs.declared.end.End.TheVariants as Ends
use Rattle.gdb_steps.specs.declared.halt.Halt.{Halt as Came}
use Rattle.gdb_steps.specs.declared.halt.Halt.TheVariants.{Spent, End, Strayed}
use Rattle.gdb_talk.specs.declared.deed.Goal.{Goal}
use Rattle.gdb_talk.specs.declared.deed.Goal.TheVariants.{Stop, Step, StepOf}
use Rattle.mixed_machine.specs.declared.stop.Stop.{Stop as MachineStop}
use Rattle.mixed_machine.specs.declared.stop.Stop.TheVariants as By

-- the last line of the trace, where code of a set is active
abbrev pub last_line : Isa → MachineStop → List ℕ
last_line set (By.Exit code) = end_line (Ends.Exit code)
last_line set (By.Fault fault) = end_line (Ends.Fault set fault)
last_line set _ = []

-- a walk had as many steps as it may have
abbrev pub spent_text : ℕ → List ℕ
spent_text budget = codes "no stop within " ++ decimal budget ++ codes " steps; monitor budget N sets how many a walk may have\n"

abbrev pub spent_note : Goal → ℕ → List ℕ
spent_note Stop budget = spent_text budget
spent_note Step budget = []
spent_note (StepOf set) budget = spent_text budget

abbrev pub strayed_text : List ℕ
strayed_text = codes "a device did not answer again as before\n"

-- what is told at the end of a walk, by whether the program's end was told before
abbrev pub note_of : Bool → Isa → Goal → ℕ → Came → List ℕ
note_of told set goal budget Spent = spent_note goal budget
note_of told set goal budget Strayed = strayed_text
note_of told set goal budget (End stop) = if told then [] else last_line set stop
note_of told set goal budget _ = []
