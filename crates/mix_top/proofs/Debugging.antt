-- How a script's events make up a way to end.
use Rattle.std.proofs.Common.{◌≡◌, ℕ, List, [], ◌++◌, Option, Some, None, Result, Err, subst, refl}
use Rattle.mix_io.specs.Streams.{Output as Sink}
use Rattle.dev_rack.specs.Accounts.{Accounts}
use Rattle.switch_frame.specs.declared.program.Program.{Program}
use Rattle.toolbox.specs.Calls.{Outside, answers_since}
use Rattle.toolbox.specs.Effects.{Around}
use Rattle.mixed_machine.specs.Machine.{flat}
use Rattle.toolbox.specs.Calls.{around_at}
use Rattle.mixed_machine.specs.State.{State}
use Rattle.mix_engine.specs.declared.machine.Machine.{Machine}
use Rattle.mix_debug.specs.TrailsClauses.{Trail}
use Rattle.mix_top.specs.Places.{place, stop_in}
use Rattle.toolbox.specs.Blames.{BlamesOnly}
use Rattle.mix_top.specs.Performing.{Plays}
use Rattle.mix_top.specs.declared.command.ScriptCommand.{ScriptCommand}
use Rattle.toolbox.specs.declared.broken.Broken.{Broken}
use Rattle.mix_top.specs.World.{Accounted, Beside, Keep, beside}
use Rattle.mix_top.specs.inner.World.{EndsIn}
use Rattle.job_words.specs.declared.job.Job.{Job}
use Rattle.mix_load.specs.declared.files.Files.{Files}
use Rattle.mix_top.specs.Scripts.{script_of}
use Rattle.mix_top.specs.Ends.{DebugWay}
use Rattle.mix_top.specs.Ends.DebugWay.{line_refused}
use Rattle.mix_top.specs.Lines.{load_line}
use Rattle.mix_top.specs.World.{Closes}
use Rattle.mix_top.specs.declared.ending.Ending.{Ending}
use Rattle.mix_top.specs.Debugging.{script_refusal}
use Rattle.mix_top.specs.Debugging.{MachineWay, ScriptRan, script_status}
use Rattle.mix_top.specs.Debugging.MachineWay.{no_debugger, scripted}
use Rattle.mix_top.proofs.Counting.{accounted-broke, accounted-early, accounted-plain, counts_at, same-counts}
use Rattle.mix_top.proofs.Ways.{early-by}

-- whose count rose
accounted-script : (stop : Option Broken) (old new : Beside) (result : ℕ) → result ≡ script_status stop → BlamesOnly stop (counts_at old) (counts_at new)
    → Accounts old.outside.rack new.outside.rack → new.keep ≡ old.keep → Accounted None old new result
accounted-script None old new result same blames devices keep =
    accounted-plain None old new 0 result (record { input = refl; out = refl; trace = refl; keep = refl }) same blames (same-counts old.keep new.keep keep) devices
accounted-script (Some broken) old new result same blames devices keep = accounted-broke None broken old new result same blames (same-counts old.keep new.keep keep) devices

-- a debugger that has done no step played a script
pub ends-script : (commands : List ScriptCommand) (m : Machine) (t u : Trail) (o p : Outside) (x y : Sink) (k : Keep) (done : Result (Unit {0}) Broken) (result : Ending)
    → t ≡ record { machine = m; kept = []; breaks = [] } → result.status ≡ script_status (stop_in done) → result.steps ≡ 0 → Plays commands (place t o x) (place u p y) done
    → EndsIn None (MachineWay commands (flat m.body m.active)) (beside o x k) (beside p y k) result
ends-script commands m t u o p x y k done result fresh same none plays =
    let own : Plays commands (place (record { machine = m; kept = []; breaks = [] }) o x) (place u p y) done = subst (λ v. Plays commands (place v o x) (place u p y) done) fresh plays in
    record {
      accounted = accounted-script (stop_in done) (beside o x k) (beside p y k) result.status same own.blames own.devices refl;
      way = scripted (record {
        steps = none;
        keep = refl;
        claim = record {
          taken = own.claim.taken;
          told = own.claim.told;
          each = λ before after rest took.
              record { stop = stop_in done; last = _; played = own.claim.each before after rest took; around_is = refl; status = same };
        };
      });
    }

-- the machine at a program's start
machine-from : (commands : List ScriptCommand) (start from : Around → State) (old new : Beside) (result : Ending) → ((around : Around) → start around ≡ from around)
    → MachineWay commands start old new result → MachineWay commands from old new result
machine-from commands start from old new result same (no_debugger early) = no_debugger early
machine-from commands start from old new result same (scripted own) =
    scripted (record {
      steps = own.steps;
      keep = own.keep;
      claim = record {
        taken = own.claim.taken;
        told = own.claim.told;
        each = λ before after rest took.
            subst (λ s. ScriptRan commands s (around_at new.outside after rest) old new result.status) (same (around_at old.outside before (answers_since old.outside.rack new.outside.rack ++ rest)))
            (own.claim.each before after rest took);
      };
    })

pub ends-started : (commands : List ScriptCommand) (program : Program) (start from : Around → State) (old new : Beside) (result : Ending) → ((around : Around) → start around ≡ from around)
    → EndsIn None (MachineWay commands start) old new result → Accounted None old new result.status × MachineWay commands from old new result
ends-started commands program start from old new result same ends = (ends.accounted, machine-from commands start from old new result same ends.way)

-- the first line that is no command
pub ends-bad_line : (job : Job) (files : Files) (text : List ℕ) (old new : Beside) (number : ℕ) (line : List ℕ) (told : ℕ) (result : Ending) → result.status ≡ told → result.steps ≡ 0 → script_of text ≡ Err number → line ≡ load_line (script_refusal number)
    → new.outside ≡ old.outside → new.keep ≡ old.keep → Closes old.trace new.trace [] line 3 told → EndsIn None (DebugWay job files text) old new result
ends-bad_line job files text old new number line told result told_is none is line_is same kept closes =
    let early = early-by old new (load_line (script_refusal number)) 3 told result told_is none same kept (subst (λ l. Closes old.trace new.trace [] l 3 told) line_is closes) in
    record {
      accounted = accounted-early None old new (load_line (script_refusal number)) 3 result (record { input = refl; out = refl; trace = refl; keep = refl }) early;
      way = line_refused number is early;
    }

-- the script that was fetched
pub ends-lines : (job : Job) (files : Files) (xs ys : List ℕ) (old new : Beside) (result : Ending) → xs ≡ ys → EndsIn None (DebugWay job files xs) old new result → EndsIn None (DebugWay job files ys) old new result
ends-lines job files xs ys old new result same ends = subst (λ text. EndsIn None (DebugWay job files text) old new result) same ends
