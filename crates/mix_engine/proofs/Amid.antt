-- Steps that touch neither input nor devices nor output are steps amid any outside.
use Rattle.std.proofs.Common.{◌≡◌, [], ◌++◌, refl, sym, subst}
use Rattle.mix_bits.specs.declared.fault.Fault.{Fault as AFault}
use Rattle.mix_io.specs.Streams.{Output}
use Rattle.mix_io.proofs.Streams.{grows-none}
use Rattle.switch_frame.specs.declared.active.Active.{Active}
use Rattle.switch_frame.specs.Records.{isa_of}
use Rattle.toolbox.specs.Blames.{BlamesOnly}
use Rattle.toolbox.specs.Calls.{Outside}
use Rattle.toolbox.specs.Effects.{Around}
use Rattle.mixed_machine.specs.declared.body.Body.{Body}
use Rattle.mixed_machine.specs.declared.did.Did.{Did}
use Rattle.mixed_machine.specs.declared.did.Did.TheVariants.{Next as IsNext, Call, Return, Exit, Fault, ReadFault, OutFault, TraceFault}
use Rattle.mixed_machine.specs.State.{State}
use Rattle.mixed_machine.specs.Next.{Next, quiet}
use Rattle.mixed_machine.specs.Next.Next.{Goes}
use Rattle.mixed_machine.specs.Machine.{IsWhole, callers_of, flat}
use Rattle.mixed_machine.specs.OutsideClauses.{At, at}
use Rattle.toolbox.specs.Calls.{around_at}
use Rattle.mixed_machine.specs.inner.Outside.{answers_between, state_of}
use Rattle.mixed_machine.specs.CountsClauses.{counts_of}
use Rattle.mixed_machine.specs.Runs.{Sinks}
use Rattle.mixed_machine.specs.RunsClauses.{sinks_of}
use Rattle.mixed_machine.specs.laws.Acts.{Acts, Done, broken_by}
use Rattle.mix_engine.specs.laws.Laws.{AreLaws}
use Rattle.mix_engine.specs.Worlds.{Seen, TracesOnly}
use Rattle.mix_engine.specs.Beside.{machine_in}
use Rattle.mix_engine.specs.inner.Does.{Does, IsInside, beside}
use Rattle.mixed_machine.proofs.Over.{told-none}
use Rattle.mix_engine.proofs.Over.{over-quiet}

-- the same of an equal step
pub done-by : (x y : Next) (did : Did) (cell : AFault) (s t : State) (old new : Sinks) → x ≡ y → Done y did cell s t old new → Done x did cell s t old new
done-by x y did cell s t old new same done = subst (λ z. Done z did cell s t old new) (sym same) done

-- only the count of the trace may have risen
blames-inside : (x : Next) (did : Did) (cell : AFault) (s t : State) (old new : Body) (before after : Active) (o : Outside) (a b : Output)
    → IsInside did → Done x did cell s t (beside o.out a) (beside o.out b) → BlamesOnly (broken_by did) (counts_of (at old before o a)) (counts_of (at new after o b))
blames-inside x IsNext cell s t old new before after o a b inside done = record { input = refl; out = refl; trace = done.put.trace.calm }
blames-inside x Call cell s t old new before after o a b inside done = record { input = refl; out = refl; trace = done.put.trace.calm }
blames-inside x Return cell s t old new before after o a b inside done = record { input = refl; out = refl; trace = done.put.trace.calm }
blames-inside x (Exit code) cell s t old new before after o a b inside done = record { input = refl; out = refl; trace = done.put.trace.calm }
blames-inside x Fault cell s t old new before after o a b inside done = record { input = refl; out = refl; trace = done.put.trace.calm }
blames-inside x ReadFault cell s t old new before after o a b inside done = absurd inside
blames-inside x OutFault cell s t old new before after o a b inside done = absurd inside
blames-inside x TraceFault cell s t old new before after o a b inside done = record { input = refl; out = refl; trace = done.put.trace.rose }

-- nothing is around
abbrev alone : Around
alone = record { input = []; slots = []; asks = []; answers = [] }

pub amid : AreLaws → (x : State → Next) (did : Did) (cell : AFault) (old new : Body) (before after : Active) (o : Outside) (a b : Output)
    → Does x did cell old new before after a b → Acts x did cell (at old before o a) (at new after o b)
amid laws x did cell old new before after o a b does =
    record {
      whole = does.whole;
      callers = does.callers;
      blames = blames-inside (x (flat old before alone)) did cell (flat old before alone) (flat new after alone) old new before after o a b does.inside (does.done alone o.out);
      devices = laws.accounts o.rack;
      step = over-quiet (λ s t. Done (x s) did cell s t (beside o.out a) (beside o.out b)) (at old before o a) (at new after o b) refl (told-none o.input.left)
          (λ input answers. does.done (around_at o input answers) o.out);
    }

-- the same by what is seen of it
pub amid-seen : AreLaws → (x : State → Next) (did : Did) (cell : AFault) (old new : Body) (before after : Active) (a b : Seen) → TracesOnly a b
    → Does x did cell old new before after a.trace b.trace → Acts x did cell (machine_in old before a) (machine_in new after b)
amid-seen laws x did cell old new before after a b rest does =
    subst (λ o. Acts x did cell (machine_in old before a) (at new after o b.trace)) (sym rest.outside) (amid laws x did cell old new before after a.outside a.trace b.trace does)

-- an equal step of an equal machine
pub acts-from : (x y : State → Next) (did : Did) (cell : AFault) (a mid b : At) → mid ≡ a
    → ((around : Around) → x (flat a.body a.active around) ≡ y (flat a.body a.active around)) → Acts y did cell mid b → Acts x did cell a b
acts-from x y did cell a mid b is same acts =
    let from : Acts y did cell a b = subst (λ z. Acts y did cell z b) is acts in
    record {
      whole = from.whole;
      callers = from.callers;
      blames = from.blames;
      devices = from.devices;
      step = record {
        taken = from.step.taken;
        told = from.step.told;
        each = λ before after rest took.
            done-by (x (state_of a before (answers_between a b ++ rest))) (y (state_of a before (answers_between a b ++ rest))) did cell
            (state_of a before (answers_between a b ++ rest)) (state_of b after rest) (sinks_of a) (sinks_of b)
            (same (around_at a.outside before (answers_between a b ++ rest))) (from.step.each before after rest took);
      };
    }

-- a step that goes on within the machine, and puts nothing
pub does-change : (x : State → Next) (cell : AFault) (b new : Body) (before after : Active) (a : Output) → IsWhole new (isa_of after) → callers_of new ≡ callers_of b
    → ((around : Around) → x (flat b before around) ≡ Goes (flat new after around) quiet) → Does x IsNext cell b new before after a a
does-change x cell b new before after a whole callers is =
    record {
      whole = whole;
      callers = callers;
      inside = tt;
      done = λ around out. done-by (x (flat b before around)) (Goes (flat new after around) quiet) IsNext cell (flat b before around) (flat new after around) (beside out a) (beside out a)
          (is around) (record { state = refl; put = record { out = grows-none out; trace = grows-none a } });
    }
