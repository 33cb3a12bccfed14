-- The commands that the user gives behind `monitor`, and what each does and tells. They are this project's own.
use Rattle.std.specs.Prelude.{◌≡◌, ℕ, ◌||◌, min, bytes_eq, nat_eq, nat_lt, Bool, true, false, List, [], ◌++◌, drop, codes, decimal, Option, Some, None, if◌then◌else◌}
use Rattle.std.specs.Int.{abs_diff}
use Rattle.std.specs.List.{starts_with}
use Rattle.mix_bits.specs.Numbers.{decimal_number, hexadecimal_number}
use Rattle.mix_engine.specs.declared.machine.Machine.{Machine}
use Rattle.mix_debug.specs.CrawlClauses.{crawl_of}
use Rattle.mixed_machine.specs.Machine.{callers_of}
use Rattle.look_text.specs.Info.{info_of}
use Rattle.look_report.specs.Blocks.{heap_text}
use Rattle.look_report.specs.Callers.{frames_text}
use Rattle.gdb_steps.specs.declared.halt.Halt.{Halt as Came}
use Rattle.gdb_steps.specs.declared.halt.Until.TheVariants.{Stopped}
use Rattle.gdb_talk.specs.declared.deed.Goal.TheVariants as Goals
use Rattle.switch_frame.specs.Records.{isa_of}
use Rattle.look_gdb.specs.Halts.{is_cut, is_end}
use Rattle.look_gdb.specs.Notes.{note_of}
use Rattle.look_gdb.specs.Views.{View}
use Rattle.look_gdb.specs.Walks.{Goes}
use Rattle.look_gdb.specs.declared.command.Command.{Command}
use Rattle.look_gdb.specs.declared.command.Command.TheVariants.{Budget, Go, Tell}
use Rattle.look_gdb.specs.declared.command.Tale.{Tale}
use Rattle.look_gdb.specs.declared.command.Tale.TheVariants.{Where, Step, Calls, Heap, Info, Help}

-- one word; any other text asks for the help
abbrev pub tale_named : List ℕ → Tale
tale_named text =
    if bytes_eq text (codes "where") then Where
    else (if bytes_eq text (codes "step") then Step else (if bytes_eq text (codes "calls") then Calls else (if bytes_eq text (codes "heap") then Heap else Help)))

abbrev pub with_budget : Option ℕ → Command
with_budget None = Tell Help
with_budget (Some budget) = Budget budget

abbrev pub with_steps : Option ℕ → Command
with_steps None = Tell Help
with_steps (Some steps) = Go steps

abbrev pub with_word : Option ℕ → Command
with_word None = Tell Help
with_word (Some word) = Tell (Info word)

-- `budget N` and `go N` with N in decimal, `info HHHHHHHH` with eight hexadecimal digits in upper case, or one word
unfoldable pub command_of : List ℕ → Command
command_of text =
    if starts_with nat_eq text (codes "budget ") then with_budget (decimal_number (drop 7 text))
    else (if starts_with nat_eq text (codes "go ") then with_steps (decimal_number (drop 3 text))
    else (if starts_with nat_eq text (codes "info ") then with_word (hexadecimal_number 8 (drop 5 text)) else Tell (tale_named text)))

unfoldable pub help_text : List ℕ
help_text =
    codes "monitor budget N: a walk stops after N steps at the latest\n"
    ++ codes "monitor go N: goes to the place behind N steps, forward or back\n"
    ++ codes "monitor where: how many steps were done, the code that runs, and each suspended caller\n"
    ++ codes "monitor step: how many steps were done\n"
    ++ codes "monitor calls: each open call across, with its procInfo in words\n"
    ++ codes "monitor info HHHHHHHH: a procInfo in words\n"
    ++ codes "monitor heap: the blocks of the heap\n"
    ++ codes "monitor help: this\n"

abbrev pub steps_text : ℕ → List ℕ
steps_text steps = codes "step " ++ decimal steps ++ codes "\n"

-- what is told of a machine behind so many steps
abbrev pub tale_text : Tale → Machine → ℕ → List ℕ
tale_text Where machine steps = steps_text steps ++ crawl_of machine
tale_text Step machine steps = steps_text steps
tale_text Calls machine steps = frames_text 0 1 (callers_of machine.body)
tale_text Heap machine steps = heap_text machine.body.heap
tale_text (Info word) machine steps = info_of word
tale_text Help machine steps = help_text

-- gdb asks for no register anew behind a command
abbrev pub flush_text : List ℕ
flush_text = codes "maintenance flush register-cache makes gdb read the registers anew\n"

-- a walk back or forward towards the place behind so many steps, of as many as a walk may have; and then it is told where
-- that came. In front of the end of the program it stays, and the end is told once, as by a walk
pub record GoesTo (v : View) (steps : ℕ) (console : List ℕ) (w : View) : Type 0 where
  pub came : Came
  pub put : List ℕ
  pub goes : Goes (nat_lt steps v.run.steps) Stopped (min (abs_diff v.run.steps steps) v.budget) came put v w
  pub whole : is_cut came ≡ false
  pub tells : console
      ≡ put ++ note_of v.is_end_told (isa_of w.run.here.machine.active) Goals.Step v.budget came
      ++ tale_text Where w.run.here.machine w.run.steps ++ flush_text
  pub same : w ≡ record v { run = w.run; most_kept = w.most_kept; is_end_told = v.is_end_told || is_end came }

-- a command changes the budget of a walk alone, or goes elsewhere, or changes nothing
abbrev pub ObeysCommand : Command → View → List ℕ → Bool → View → Type 0
ObeysCommand (Budget budget) v console moved w = (moved ≡ false) × (w ≡ record v { budget = budget }) × (console ≡ [])
ObeysCommand (Go steps) v console moved w = (moved ≡ true) × GoesTo v steps console w
ObeysCommand (Tell tale) v console moved w = (moved ≡ false) × (w ≡ v) × (console ≡ tale_text tale v.run.here.machine v.run.steps)

abbrev pub Obeys : View → List ℕ → List ℕ → Bool → View → Type 0
Obeys v text console moved w = ObeysCommand (command_of text) v console moved w
