-- A step of a debugger, as a step of the sessions that it stands for.
use Rattle.std.proofs.Common.{◌≡◌, ℕ, suc, ◌+◌, ◌-◌, ◌<◌, ◌≤◌, nat_le, Bool, true, false, if◌then◌else◌, List, [], ◌∷◌, ◌++◌, length, map, arith, ap, sym, subst, ◌∙◌, refl, append-nil}
use Rattle.std.proofs.lemmas.Bool.Decides.{nat_tests}
use Rattle.mix_bits.specs.declared.fault.Fault.{Fault as AFault}
use Rattle.mix_bits.specs.declared.isa.Isa.{Isa}
use Rattle.mix_io.specs.Streams.{Breaks, Grows, Output}
use Rattle.switch_frame.specs.Records.{isa_of}
use Rattle.switch_frame.proofs.Seen.{seen_is_memory}
use Rattle.toolbox.specs.Calls.{Outside}
use Rattle.toolbox.specs.Effects.{Around}
use Rattle.dev_rack.specs.Accounts.{Accounts}
use Rattle.toolbox.specs.Blames.{BlamesOnly}
use Rattle.mixed_machine.specs.CountsClauses.{Blames}
use Rattle.mixed_machine.specs.Exec.{GoesTo, Leads, Reads, exec_to, goes_on, is_back, line_of, log, log_then, rests, said_of}
use Rattle.mixed_machine.specs.StepClauses.{Says, Tells}
use Rattle.mixed_machine.specs.Exec.How.{Limited, Exited, Faulted}
use Rattle.mixed_machine.specs.Exec.End.{Ended}
use Rattle.mixed_machine.specs.Machine.{callers_of, flat, memory_of}
use Rattle.mixed_machine.specs.Next.{Next, Effects}
use Rattle.mixed_machine.specs.Next.Next.{Goes, Exits, Faults}
use Rattle.mixed_machine.specs.OutsideClauses.{at}
use Rattle.mixed_machine.specs.RunsClauses.{Runs}
use Rattle.mixed_machine.specs.Runs.{Sinks, Stops}
use Rattle.mixed_machine.specs.State.{State, seen}
use Rattle.mixed_machine.specs.Step.{step}
use Rattle.mixed_machine.specs.declared.stop.Stop.{Stop}
use Rattle.mixed_machine.specs.declared.stop.Stop.TheVariants.{Exit, Fault, Limit, ReadFault, OutFault, TraceFault}
use Rattle.mix_engine.specs.declared.machine.Machine.{Machine}
use Rattle.mix_debug.specs.Costs.{file_cost}
use Rattle.mix_debug.specs.Machines.{IsSound}
use Rattle.mix_debug.specs.CostsClauses.{Kept, cost_between, fitting as fitting_kept}
use Rattle.mix_debug.specs.Changes.{runs_cost, runs_from}
use Rattle.mix_debug.specs.TrailsClauses.{Keeps, Trail, is_done}
use Rattle.mix_debug.specs.Trails.{history_room}
use Rattle.mix_top.specs.Sessions.{Past, Session, cost_of, fitting, stepped}
use Rattle.mix_top.specs.Debuggers.{past_of, session_of}
use Rattle.mix_top.specs.Events.{Event, after, lines_by, said_by, steps_to}
use Rattle.mix_top.specs.Places.{Over, Place, counts_in, place, sinks_in}
use Rattle.mix_top.specs.Plays.{AllDone}
use Rattle.mix_top.specs.inner.ScriptParts.{DoesOnce, halt_in, once_in, once_of}
use Rattle.mix_top.specs.declared.walk.Once.{Once}

-- ---- a run of one step

never-back : (s : State) → is_back 0 s ≡ false
never-back s = grind (arith, nat_tests)

rests-at : (b : Bool) (s t : State) (left : ℕ) → b ≡ false → rests b s ≡ Ended Limited t left → (s ≡ t) × (left ≡ 0)
rests-at true s t left is ends = cc
rests-at false s t left is ends = (cc, cc)

rests-exited : (b : Bool) (s t : State) (left code : ℕ) → rests b s ≡ Ended (Exited code) t left → ⊥
rests-exited true s t left code ends = cc
rests-exited false s t left code ends = cc

rests-faulted : (b : Bool) (s t : State) (left : ℕ) (fault : AFault) → rests b s ≡ Ended (Faulted fault) t left → ⊥
rests-faulted true s t left fault ends = cc
rests-faulted false s t left fault ends = cc

-- no step
none-led : (s t : State) → Leads 0 0 s t → s ≡ t
unfolding exec_to
none-led s t leads = (rests-at (is_back 0 s) s t 0 (never-back s) leads).0

-- a step that goes on
pub record Went (x : Next) (t : State) (left : ℕ) : Type 0 where
  pub effects : Effects
  pub goes : x ≡ Goes t effects
  pub none : left ≡ 0

went-by : (b : Bool) (x : Next) (s t : State) (left : ℕ) → b ≡ false → goes_on b x s 0 (exec_to 0 0) ≡ Ended Limited t left → Went x t left
unfolding exec_to
went-by true x s t left is ends = cc
went-by false (Goes u effects) s t left is ends =
    let own = rests-at (is_back 0 u) u t left (never-back u) ends in
    record { effects = effects; goes = ap (λ v. Goes v effects) own.0; none = own.1 }
went-by false (Exits code) s t left is ends = cc
went-by false (Faults fault) s t left is ends = cc

went-one : (s t : State) (left : ℕ) → exec_to 0 1 s ≡ Ended Limited t left → Went (step s) t left
unfolding exec_to
went-one s t left ends = went-by (is_back 0 s) (step s) s t left (never-back s) ends

pub record Left (x y : Next) (s t : State) (left n : ℕ) : Type 0 where
  pub ends : x ≡ y
  pub same : t ≡ s
  pub left_is : left ≡ n

exited-by : (b : Bool) (x : Next) (s t : State) (left code : ℕ) → b ≡ false → goes_on b x s 0 (exec_to 0 0) ≡ Ended (Exited code) t left → Left x (Exits code) s t left 0
unfolding exec_to
exited-by true x s t left code is ends = cc
exited-by false (Goes u effects) s t left code is ends = absurd (rests-exited (is_back 0 u) u t left code ends)
exited-by false (Exits c) s t left code is ends = record { ends = cc; same = cc; left_is = cc }
exited-by false (Faults fault) s t left code is ends = cc

exited-one : (s t : State) (left code : ℕ) → exec_to 0 1 s ≡ Ended (Exited code) t left → Left (step s) (Exits code) s t left 0
unfolding exec_to
exited-one s t left code ends = exited-by (is_back 0 s) (step s) s t left code (never-back s) ends

faulted-by : (b : Bool) (x : Next) (s t : State) (left : ℕ) (fault : AFault) → b ≡ false → goes_on b x s 0 (exec_to 0 0) ≡ Ended (Faulted fault) t left → Left x (Faults fault) s t left 1
unfolding exec_to
faulted-by true x s t left fault is ends = cc
faulted-by false (Goes u effects) s t left fault is ends = absurd (rests-faulted (is_back 0 u) u t left fault ends)
faulted-by false (Exits code) s t left fault is ends = cc
faulted-by false (Faults f) s t left fault is ends = record { ends = cc; same = cc; left_is = cc }

faulted-one : (s t : State) (left : ℕ) (fault : AFault) → exec_to 0 1 s ≡ Ended (Faulted fault) t left → Left (step s) (Faults fault) s t left 1
unfolding exec_to
faulted-one s t left fault ends = faulted-by (is_back 0 s) (step s) s t left fault (never-back s) ends

-- what it puts
log-one : (pick : Next → List ℕ) (s t : State) (effects : Effects) (done : ℕ) → done ≡ 1 → step s ≡ Goes t effects → log pick done s ≡ pick (Goes t effects) ++ []
unfolding log
log-one pick s t effects done one goes = ap (λ n. log pick n s) one ∙ ap (λ x. log_then pick x (log pick 0)) goes

log-exit : (pick : Next → List ℕ) (s : State) (code done : ℕ) → done ≡ 1 → step s ≡ Exits code → log pick done s ≡ pick (Exits code)
unfolding log
log-exit pick s code done one exits = ap (λ n. log pick n s) one ∙ ap (λ x. log_then pick x (log pick 0)) exits

log-none : (pick : Next → List ℕ) (s : State) (done : ℕ) → done ≡ 0 → log pick done s ≡ []
unfolding log
log-none pick s done none = ap (λ n. log pick n s) none

-- a step that reads, says or tells something goes on
reads-goes : (x : Next) → Reads x → (u : State) × (effects : Effects) × (x ≡ Goes u effects) × (effects.reads ≡ true)
reads-goes (Goes u effects) reads = (u, effects, refl, reads)
reads-goes (Exits code) reads = absurd reads
reads-goes (Faults fault) reads = absurd reads

says-goes : (x : Next) → Says x → (u : State) × (effects : Effects) × (x ≡ Goes u effects) × (0 < length effects.said)
says-goes (Goes u effects) says = (u, effects, refl, says)
says-goes (Exits code) says = absurd (omega (arith, says))
says-goes (Faults fault) says = absurd (omega (arith, says))

tells-goes : (x : Next) (t : State) → GoesTo x t → Tells x → (effects : Effects) × (x ≡ Goes t effects) × (0 < length effects.line)
tells-goes (Goes u effects) t goes tells = (effects, ap (λ v. Goes v effects) (sym goes), tells)
tells-goes (Exits code) t goes tells = absurd goes
tells-goes (Faults fault) t goes tells = absurd goes

-- ---- what a debugger keeps, as the session keeps it

fitted : (b : Bool) (room : ℕ) (k : Kept) (ks : List Kept) → map past_of (fitting_kept (room - k.cost) ks) ≡ fitting (room - k.cost) (map past_of ks)
    → map past_of (if b then k ∷ fitting_kept (room - k.cost) ks else []) ≡ (if b then past_of k ∷ fitting (room - k.cost) (map past_of ks) else [])
fitted true room k ks rest = ap (λ ps. past_of k ∷ ps) rest
fitted false room k ks rest = refl

map-fitting : (room : ℕ) (ks : List Kept) → map past_of (fitting_kept room ks) ≡ fitting room (map past_of ks)
unfolding fitting_kept fitting
map-fitting room [] = refl
map-fitting room (k ∷ ks) = fitted (nat_le k.cost room) room k ks (map-fitting (room - k.cost) ks)

-- bytes of memory, as the state tells them
seen-bytes : (m : Machine) (around : Around) → IsSound m → (seen (flat m.body m.active around)).bytes ≡ m.body.ram.bytes
unfolding memory_of
seen-bytes m around sound = ap (λ ram. ram.bytes) (seen_is_memory m.body.ram m.body.top (callers_of m.body) sound.chain)

cost-same : (m n : Machine) (x y : Around) → IsSound m → IsSound n → cost_between m n ≡ cost_of (flat m.body m.active x) (flat n.body n.active y)
unfolding cost_between cost_of
cost-same m n x y here there =
    ap (λ old. file_cost m.active + runs_cost (runs_from 0 old n.body.ram.bytes)) (sym (seen-bytes m x here))
    ∙ ap (λ new. file_cost m.active + runs_cost (runs_from 0 (seen (flat m.body m.active x)).bytes new)) (sym (seen-bytes n y there))

-- a step of a debugger
pub record IsStep (old new : Trail) (stop : Stop) : Type 0 where
  pub here : IsSound old.machine
  pub there : IsSound new.machine
  pub keeps : Keeps (is_done stop) old new
  pub breaks : new.breaks ≡ old.breaks

done-is : (old new : Trail) (x y : Around) → IsSound old.machine → IsSound new.machine → Keeps true old new → new.breaks ≡ old.breaks
    → session_of new y ≡ stepped (session_of old x) (flat new.machine.body new.machine.active y)
done-is old new x y here there keeps breaks =
    let state : State = flat new.machine.body new.machine.active y in
    let first : ℕ → Past = λ cost. record { before = flat old.machine.body old.machine.active; cost = cost } in
    let past : map past_of new.kept ≡ fitting history_room (first (cost_of (flat old.machine.body old.machine.active x) state) ∷ map past_of old.kept) =
    ap (map past_of) keeps
    ∙ (map-fitting history_room (record { machine = old.machine; cost = cost_between old.machine new.machine } ∷ old.kept)
    ∙ ap (λ cost. fitting history_room (first cost ∷ map past_of old.kept)) (cost-same old.machine new.machine x y here there)) in
    ap (λ (ps : List Past). record { state = state; past = ps; breaks = new.breaks }) past
    ∙ ap (λ (bs : List ℕ). record { state = state; past = fitting history_room (first (cost_of (flat old.machine.body old.machine.active x) state) ∷ map past_of old.kept); breaks = bs }) breaks

still-is : (old new : Trail) (y : Around) → Keeps false old new → new.breaks ≡ old.breaks → session_of new y ≡ session_of old y
still-is old new y keeps breaks =
    ap (λ (m : Machine). record { state = flat m.body m.active y; past = map past_of new.kept; breaks = new.breaks }) keeps.0
    ∙ (ap (λ (ks : List Kept). record { state = flat old.machine.body old.machine.active y; past = map past_of ks; breaks = new.breaks }) keeps.1
    ∙ ap (λ (bs : List ℕ). record { state = flat old.machine.body old.machine.active y; past = map past_of old.kept; breaks = bs }) breaks)

-- where nothing was done, the outside is the same, too
same-session : (old new : Trail) (x y : Around) → Keeps false old new → new.breaks ≡ old.breaks → (session_of new y).state ≡ (session_of old x).state → session_of new y ≡ session_of old x
same-session old new x y keeps breaks same = still-is old new y keeps breaks ∙ ap (session_of old) (ap (λ s. s.around) same)

-- ---- the step

-- what one event puts
one-said : (e : Event) → said_by (e ∷ []) ≡ e.said ++ []
unfolding said_by
one-said e = refl

one-line : (e : Event) → lines_by (e ∷ []) ≡ e.line ++ []
unfolding lines_by
one-line e = refl

none-said : said_by [] ≡ []
unfolding said_by
none-said = refl

none-lines : lines_by [] ≡ []
unfolding lines_by
none-lines = refl

after-one : (s : Session) (e : Event) → after s (e ∷ []) ≡ e.after
unfolding after
after-one s e = refl

after-none : (s : Session) → after s [] ≡ s
unfolding after
after-none s = refl

quiet-end : (s t : Session) (a b : Sinks) (said line : List ℕ) → t ≡ s → said ≡ [] → line ≡ [] → Grows a.out b.out said → Grows a.trace b.trace line → AllDone [] s t a b
quiet-end s t a b said line same no_said no_line grows traced =
    record {
      end_is = same ∙ sym (after-none s);
      said = subst (Grows a.out b.out) (no_said ∙ sym none-said) grows;
      traced = subst (Grows a.trace b.trace) (no_line ∙ sym none-lines) traced;
    }

once-done : (old new : Trail) (x y : Around) (a b : Sinks) (left : ℕ) (stop : Stop) (set : Isa) → set ≡ isa_of old.machine.active → left ≤ 1 → IsStep old new stop
    → Stops 0 1 left (session_of old x).state (session_of new y).state a b stop → DoesOnce (once_of set stop) (session_of old x) (session_of new y) a b
once-done old new x y a b left (Exit code) set set_is few is ran =
    let own = exited-one (session_of old x).state (session_of new y).state left code ran.ends in
    let one : 1 - left ≡ 1 = (let none = own.left_is in omega (arith, none)) in
    record {
      ends = own.ends;
      done = quiet-end (session_of old x) (session_of new y) a b _ _ (same-session old new x y is.keeps is.breaks own.same)
          (log-exit said_of (session_of old x).state code (1 - left) one own.ends) (log-exit line_of (session_of old x).state code (1 - left) one own.ends) ran.took.said ran.took.traced;
    }
once-done old new x y a b left (Fault fault) set set_is few is ran =
    let own = faulted-one (session_of old x).state (session_of new y).state left fault ran.ends in
    let none : 1 - left ≡ 0 = (let one = own.left_is in omega (arith, one)) in (
      set_is,
      record {
        ends = own.ends;
        done = quiet-end (session_of old x) (session_of new y) a b _ _ (same-session old new x y is.keeps is.breaks own.same)
            (log-none said_of (session_of old x).state (1 - left) none) (log-none line_of (session_of old x).state (1 - left) none) ran.took.said ran.took.traced;
      },
    )
once-done old new x y a b left Limit set set_is few is ran =
    let own = went-one (session_of old x).state (session_of new y).state left ran.ends in
    let one : 1 - left ≡ 1 = (let none = own.none in omega (arith, none)) in
    let event : Event = steps_to (session_of old x) (session_of new y).state own.effects in
    record {
      next = (session_of new y).state;
      effects = own.effects;
      goes = own.goes;
      played = record {
        end_is = done-is old new x y is.here is.there is.keeps is.breaks ∙ sym (after-one (session_of old x) event);
        said = subst (Grows a.out b.out) (log-one said_of (session_of old x).state (session_of new y).state own.effects (1 - left) one own.goes ∙ sym (one-said event)) ran.took.said;
        traced = subst (Grows a.trace b.trace) (log-one line_of (session_of old x).state (session_of new y).state own.effects (1 - left) one own.goes ∙ sym (one-line event)) ran.took.traced;
      };
    }
once-done old new x y a b left ReadFault set set_is few is broke =
    let some : 0 < left = broke.some in
    let none : 1 - left ≡ 0 = omega (arith, some, few) in
    let same : (session_of old x).state ≡ (session_of new y).state = none-led _ _ (subst (λ n. Leads 0 n (session_of old x).state (session_of new y).state) none broke.leads) in
    let own = reads-goes (step (session_of new y).state) broke.reads in
    record {
      next = own.0;
      effects = own.1;
      goes = ap step same ∙ own.2;
      played = record {
        before = [];
        event = steps_to (session_of old x) own.0 own.1;
        behind = [];
        order = refl;
        reads = own.3;
        end_is = same-session old new x y is.keeps is.breaks (sym same) ∙ sym (after-none (session_of old x));
        said = subst (Grows a.out b.out) (log-none said_of (session_of old x).state (1 - left) none ∙ sym none-said) broke.took.said;
        traced = subst (Grows a.trace b.trace) (log-none line_of (session_of old x).state (1 - left) none ∙ sym none-lines) broke.took.traced;
      };
    }
once-done old new x y a b left OutFault set set_is few is broke =
    let some : 0 < left = broke.some in
    let none : 1 - left ≡ 0 = omega (arith, some, few) in
    let same : (session_of old x).state ≡ (session_of new y).state = none-led _ _ (subst (λ n. Leads 0 n (session_of old x).state (session_of new y).state) none broke.leads) in
    let own = says-goes (step (session_of new y).state) broke.says in
    record {
      next = own.0;
      effects = own.1;
      goes = ap step same ∙ own.2;
      played = record {
        before = [];
        event = steps_to (session_of old x) own.0 own.1;
        behind = [];
        order = refl;
        says = own.3;
        end_is = same-session old new x y is.keeps is.breaks (sym same) ∙ sym (after-none (session_of old x));
        said = subst (λ xs. Breaks a.out b.out xs own.1.said) (log-none said_of (session_of old x).state (1 - left) none ∙ sym none-said)
            (subst (λ n. Breaks a.out b.out (log said_of (1 - left) (session_of old x).state) (said_of n)) own.2 broke.said);
        traced = subst (Grows a.trace b.trace) (log-none line_of (session_of old x).state (1 - left) none ∙ sym none-lines) broke.traced;
      };
    }
once-done old new x y a b left TraceFault set set_is few is broke =
    let fewer : left < 1 = broke.fewer in
    let none : 1 - suc left ≡ 0 = omega (arith, fewer) in
    let one : 1 - left ≡ 1 = omega (arith, fewer) in
    let same : (session_of old x).state ≡ broke.last = none-led _ _ (subst (λ n. Leads 0 n (session_of old x).state broke.last) none broke.leads) in
    let own = tells-goes (step broke.last) (session_of new y).state broke.goes broke.tells in
    let goes : step (session_of old x).state ≡ Goes (session_of new y).state own.0 = ap step same ∙ own.1 in
    let event : Event = steps_to (session_of old x) (session_of new y).state own.0 in
    record {
      next = (session_of new y).state;
      effects = own.0;
      goes = goes;
      played = record {
        before = [];
        event = event;
        behind = [];
        order = refl;
        tells = own.2;
        end_is = done-is old new x y is.here is.there is.keeps is.breaks;
        said = subst (Grows a.out b.out) (log-one said_of (session_of old x).state (session_of new y).state own.0 (1 - left) one goes ∙ (append-nil own.0.said ∙ ap (λ xs. xs ++ own.0.said) (sym none-said))) broke.said;
        traced = subst (λ xs. Breaks a.trace b.trace xs own.0.line) (log-none line_of (session_of old x).state (1 - suc left) none ∙ sym none-lines)
            (subst (λ n. Breaks a.trace b.trace (log line_of (1 - suc left) (session_of old x).state) (line_of n)) own.1 broke.traced);
      };
    }

blames-once : (set : Isa) (stop : Stop) (a b : Place) → Blames stop (counts_in a) (counts_in b) → BlamesOnly (halt_in (once_of set stop)) (counts_in a) (counts_in b)
blames-once set (Exit code) a b blames = blames
blames-once set (Fault fault) a b blames = blames
blames-once set Limit a b blames = blames
blames-once set ReadFault a b blames = blames
blames-once set OutFault a b blames = blames
blames-once set TraceFault a b blames = blames

once-over : (old new : Trail) (o p : Outside) (v w : Output) (stop : Stop) (set : Isa) → set ≡ isa_of old.machine.active → IsStep old new stop
    → Runs 1 (at old.machine.body old.machine.active o v) (at new.machine.body new.machine.active p w) stop
    → Blames stop (counts_in (place old o v)) (counts_in (place new p w)) → Accounts o.rack p.rack
    → Over (halt_in (once_of set stop)) (λ s t. DoesOnce (once_of set stop) s t (sinks_in (place old o v)) (sinks_in (place new p w))) (place old o v) (place new p w)
once-over old new o p v w stop set set_is is runs blames devices =
    record {
      blames = blames-once set stop (place old o v) (place new p w) blames;
      devices = devices;
      claim = record {
        taken = runs.run.taken;
        told = runs.run.told;
        each = λ before after rest took.
            once-done old new _ _ (sinks_in (place old o v)) (sinks_in (place new p w)) runs.left stop set set_is runs.fewer is (runs.run.each before after rest took);
      };
    }

pub once-does : (old new : Trail) (o p : Outside) (v w : Output) (stop : Stop) (set : Isa) (once : Once) → set ≡ isa_of old.machine.active → once ≡ once_of set stop → IsStep old new stop
    → Runs 1 (at old.machine.body old.machine.active o v) (at new.machine.body new.machine.active p w) stop
    → Blames stop (counts_in (place old o v)) (counts_in (place new p w)) → Accounts o.rack p.rack
    → Over (halt_in once) (λ s t. DoesOnce once s t (sinks_in (place old o v)) (sinks_in (place new p w))) (place old o v) (place new p w)
once-does old new o p v w stop set once set_is same is runs blames devices =
    subst (λ r. Over (halt_in r) (λ s t. DoesOnce r s t (sinks_in (place old o v)) (sinks_in (place new p w))) (place old o v) (place new p w)) (sym same)
    (once-over old new o p v w stop set set_is is runs blames devices)

-- by the set that is active behind the step
same-once : (old new : Trail) (stop : Stop) → Keeps (is_done stop) old new → once_of (isa_of new.machine.active) stop ≡ once_of (isa_of old.machine.active) stop
same-once old new (Exit code) keeps = refl
same-once old new (Fault fault) keeps = ap (λ (m : Machine). once_of (isa_of m.active) (Fault fault)) keeps.0
same-once old new Limit keeps = refl
same-once old new ReadFault keeps = refl
same-once old new OutFault keeps = refl
same-once old new TraceFault keeps = refl

pub once-does_in : (old new : Trail) (o p : Outside) (v w : Output) (stop : Stop) → IsStep old new stop
    → Runs 1 (at old.machine.body old.machine.active o v) (at new.machine.body new.machine.active p w) stop
    → Blames stop (counts_in (place old o v)) (counts_in (place new p w)) → Accounts o.rack p.rack
    → Over (halt_in (once_in new stop)) (λ s t. DoesOnce (once_in new stop) s t (sinks_in (place old o v)) (sinks_in (place new p w))) (place old o v) (place new p w)
once-does_in old new o p v w stop is = once-does old new o p v w stop (isa_of old.machine.active) (once_in new stop) refl (same-once old new stop is.keeps) is
