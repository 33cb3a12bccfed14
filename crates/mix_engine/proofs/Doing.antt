-- How a step that touches neither the input nor the devices nor the output is done.
use Rattle.std.proofs.Common.{◌≡◌, ℕ, ◌<◌, ◌≤◌, List, [], ◌∷◌, length, take, arith, refl, sym, ap, ◌∙◌, subst}
use Rattle.std.proofs.lemmas.List.{places}
use Rattle.std.specs.Io.KnownBytes.{Appends}
use Rattle.mix_bits.specs.declared.fault.FaultKind.{FaultKind}
use Rattle.mix_io.specs.Counts.{Rose}
use Rattle.proc_info.specs.Signature.{Signature}
use Rattle.call_trace.specs.Lines.{call_line, ret_line}
use Rattle.mix_bits.specs.declared.fault.Fault.{Fault as AFault}
use Rattle.mix_io.specs.Streams.{Output, Grows, Breaks}
use Rattle.mix_io.specs.laws.Streams.{NothingGrows}
use Rattle.switch_frame.specs.declared.active.Active.{Active}
use Rattle.switch_frame.specs.Records.{Record, isa_of}
use Rattle.toolbox.specs.Effects.{Around}
use Rattle.mixed_machine.specs.declared.body.Body.{Body}
use Rattle.mixed_machine.specs.declared.did.Did.{Did}
use Rattle.mixed_machine.specs.declared.did.Did.TheVariants.{Call, Return, Exit, Fault, TraceFault}
use Rattle.mixed_machine.specs.State.{State}
use Rattle.mixed_machine.specs.Next.{Next, traced}
use Rattle.mixed_machine.specs.Next.Next.{Goes, Exits, Faults}
use Rattle.mixed_machine.specs.Machine.{IsWhole, callers_of, flat}
use Rattle.mixed_machine.specs.laws.Acts.{Done}
use Rattle.mix_engine.specs.inner.Does.{Does, beside}

-- the same step in other words
pub does-same : (x y : State → Next) (did : Did) (cell : AFault) (old new : Body) (before after : Active) (a b : Output)
    → ((around : Around) → y (flat old before around) ≡ x (flat old before around))
    → Does x did cell old new before after a b → Does y did cell old new before after a b
does-same x y did cell old new before after a b same does =
    record {
      whole = does.whole;
      callers = does.callers;
      inside = does.inside;
      done = λ around out. subst (λ n. Done n did cell (flat old before around) (flat new after around) (beside out a) (beside out b)) (sym (same around)) (does.done around out);
    }

-- a fault, with nothing changed
pub does-fault : NothingGrows → (x : State → Next) (cell : AFault) (b : Body) (active : Active) (a : Output) → IsWhole b (isa_of active)
    → ((around : Around) → x (flat b active around) ≡ Faults cell) → Does x Fault cell b b active active a a
does-fault grows x cell b active a whole is =
    does-same (λ s. Faults cell) x Fault cell b b active active a a is (record {
      whole = whole;
      callers = refl;
      inside = tt;
      done = λ around out. record { state = (refl, refl); put = record { out = grows out; trace = grows a } };
    })

-- the end of the program
pub does-exit : NothingGrows → (x : State → Next) (code : ℕ) (cell : AFault) (b : Body) (active : Active) (a : Output) → IsWhole b (isa_of active)
    → ((around : Around) → x (flat b active around) ≡ Exits code) → Does x (Exit code) cell b b active active a a
does-exit grows x code cell b active a whole is =
    does-same (λ s. Exits code) x (Exit code) cell b b active active a a is (record {
      whole = whole;
      callers = refl;
      inside = tt;
      done = λ around out. record { state = (refl, refl); put = record { out = grows out; trace = grows a } };
    })

-- a call, a return, and either of them whose line failed
pub does-call : NothingGrows → (x : State → Next) (t : State → State) (line : List ℕ) (cell : AFault) (old new : Body) (before after : Active) (a b : Output) (r : Record)
    → IsWhole new (isa_of after) → callers_of new ≡ r ∷ callers_of old
    → ((around : Around) → x (flat old before around) ≡ Goes (t (flat old before around)) (traced line)) → ((around : Around) → flat new after around ≡ t (flat old before around))
    → Grows a b line → Does x Call cell old new before after a b
does-call grows x t line cell old new before after a b r whole callers is to more =
    does-same (λ s. Goes (t s) (traced line)) x Call cell old new before after a b is (record {
      whole = whole;
      callers = (r, callers);
      inside = tt;
      done = λ around out. record { state = to around; put = record { out = grows out; trace = more } };
    })

pub does-return : NothingGrows → (x : State → Next) (t : State → State) (line : List ℕ) (cell : AFault) (old new : Body) (before after : Active) (a b : Output) (r : Record)
    → IsWhole new (isa_of after) → callers_of old ≡ r ∷ callers_of new
    → ((around : Around) → x (flat old before around) ≡ Goes (t (flat old before around)) (traced line)) → ((around : Around) → flat new after around ≡ t (flat old before around))
    → Grows a b line → Does x Return cell old new before after a b
does-return grows x t line cell old new before after a b r whole callers is to more =
    does-same (λ s. Goes (t s) (traced line)) x Return cell old new before after a b is (record {
      whole = whole;
      callers = (r, callers);
      inside = tt;
      done = λ around out. record { state = to around; put = record { out = grows out; trace = more } };
    })

pub does-cut : NothingGrows → (x : State → Next) (t : State → State) (line : List ℕ) (cell : AFault) (old new : Body) (before after : Active) (a b : Output)
    → IsWhole new (isa_of after)
    → ((around : Around) → x (flat old before around) ≡ Goes (t (flat old before around)) (traced line)) → ((around : Around) → flat new after around ≡ t (flat old before around))
    → 0 < length line → Breaks a b [] line → Does x TraceFault cell old new before after a b
does-cut grows x t line cell old new before after a b whole is to some breaks =
    does-same (λ s. Goes (t s) (traced line)) x TraceFault cell old new before after a b is (record {
      whole = whole;
      callers = tt;
      inside = tt;
      done = λ around out. record { state = (to around, some); put = record { out = grows out; trace = breaks } };
    })

-- what the trace says of a line that it took, and of one at which it failed
pub line-taken : (a b : Output) (line said : List ℕ) → line ≡ said → Appends a.held b.held line → b.faults ≡ a.faults → Grows a b said
line-taken a b line said same taken calm = record { taken = subst (Appends a.held b.held) same taken; calm = calm }

pub line-cut : (a b : Output) (line said : List ℕ) → line ≡ said → (k : ℕ) × (k ≤ length line) × Appends a.held b.held (take k line) → Rose a.faults b.faults → Breaks a b [] said
line-cut a b line said same kept rose = subst (Breaks a b []) same (record { kept = kept.0; within = kept.1; taken = kept.2; rose = rose })

-- each line has a text
pub call-some : (r : Record) (sig : Signature) (values : List ℕ) → 0 < length (call_line r sig values)
unfolding call_line
call-some r sig values = grind (arith, places)

pub return-some : (sig : Signature) (value : ℕ) → 0 < length (ret_line sig value)
unfolding ret_line
return-some sig value = grind (arith, places)

-- the cell of a fault
pub cell-is : (kind : FaultKind) (pc detail m n : ℕ) (cell : AFault) → m ≡ n → cell ≡ record { kind = kind; pc = pc; detail = detail; also = n }
    → Faults (record { kind = kind; pc = pc; detail = detail; also = m }) ≡ Faults cell
cell-is kind pc detail m n cell same is = ap (λ k. Faults (record { kind = kind; pc = pc; detail = detail; also = k })) same ∙ ap Faults (sym is)

-- a call that answers a fault
pub does-refused : NothingGrows → (x : State → Next) (did : Did) (cell : AFault) (b : Body) (active : Active) (a : Output) → did ≡ Fault → IsWhole b (isa_of active)
    → ((around : Around) → x (flat b active around) ≡ Faults cell) → Does x did cell b b active active a a
does-refused grows x did cell b active a is whole faults_so =
    subst (λ d. Does x d cell b b active active a a) (sym is) (does-fault grows x cell b active a whole faults_so)
