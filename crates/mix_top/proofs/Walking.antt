-- Steps of a command, one after the other.
use Rattle.std.proofs.Common.{◌≡◌, ℕ, suc, ◌+◌, ◌-◌, ◌<◌, ◌≤◌, Bool, true, false, if◌then◌else◌, List, [], ◌∷◌, ◌++◌, length, map, Some, None, Ok, Err, arith, ap, sym, subst, ◌∙◌, refl, append-nil, append_assoc, length-append}
use Rattle.call_trace.specs.declared.end.End.{End}
use Rattle.call_trace.specs.declared.end.End.TheVariants.{Exit, Fault, Limit}
use Rattle.toolbox.specs.Effects.{Around}
use Rattle.mixed_machine.specs.Next.{Next}
use Rattle.mixed_machine.specs.Next.Next.{Exits, Faults}
use Rattle.mixed_machine.specs.Runs.{Sinks}
use Rattle.mixed_machine.specs.Step.{step}
use Rattle.mixed_machine.specs.declared.stop.Stop.{Stop}
use Rattle.mixed_machine.specs.declared.stop.Stop.TheVariants as By
use Rattle.mix_bits.specs.declared.isa.Isa.{Isa}
use Rattle.std.specs.Prelude.{Result}
use Rattle.mix_engine.specs.Ends.{goes_on}
use Rattle.toolbox.specs.declared.broken.Broken.TheVariants as Halt
use Rattle.mix_top.specs.declared.walk.Walked.{Walked}
use Rattle.mix_engine.specs.declared.machine.Machine.{Machine}
use Rattle.mix_debug.specs.CostsClauses.{Kept}
use Rattle.mix_debug.specs.TrailsClauses.{TakesBack, Trail}
use Rattle.mix_top.specs.Sessions.{Past, Session, returned, stepped}
use Rattle.mix_top.specs.Debuggers.{past_of, session_of}
use Rattle.mix_top.specs.Events.{Event, Walk, after, back_by, backward, forward, goes_back, halts, lines_by, onward, said_by, steps_to, stops, walk_by}
use Rattle.mix_top.specs.Places.{Over, Place, sinks_in}
use Rattle.mix_top.specs.Plays.{AllDone, Played}
use Rattle.mix_top.specs.inner.ScriptParts.{DoesOnce, EndsAt, GoesForward, GoesOn, Walks, WalksBack, ended_by, halt_in, once_of}
use Rattle.mix_top.specs.declared.walk.Once.TheVariants.{Went, Ended, Halted}
use Rattle.toolbox.specs.declared.broken.Broken.{Broken}
use Rattle.mix_top.specs.declared.walk.Until.{Until}
use Rattle.mix_top.proofs.Overs.{over-more, over-none, over-same}
use Rattle.mix_top.proofs.Playing.{after-append, all-more, all-none, lines-append, played-as, played-front, played-more, said-append}

-- a walk with events in front
abbrev behind : List Event → Walk → Walk
behind es w = record { steps = es ++ w.steps; ending = w.ending }

behind-one : (es : List Event) (e : Event) (w : Walk) → behind es (onward e w) ≡ behind (es ++ e ∷ []) w
behind-one es e w = ap (λ steps. record { steps = steps; ending = w.ending }) (sym (append_assoc es (e ∷ []) w.steps))

length-one : (es : List Event) (e : Event) (n : ℕ) → length es ≡ n → length (es ++ e ∷ []) ≡ n + 1
length-one es e n is = let both = length-append es (e ∷ []) in omega (arith, both, is)

-- ---- forward

-- so many steps of a command were done
pub record Going (until : Until) (count done : ℕ) (s t : Session) (old new : Sinks) : Type 0 where
  pub events : List Event
  pub order : forward until count s ≡ behind events (forward until (count - done) t)
  pub long : length events ≡ done
  pub all : AllDone events s t old new

abbrev pub GoingAt : Until → ℕ → ℕ → Place → Place → Type 0
GoingAt until count done a b = Over None (λ s t. Going until count done s t (sinks_in a) (sinks_in b)) a b

no-less : (n : ℕ) → n ≡ n - 0
no-less n = omega arith

going-none : (until : Until) (count : ℕ) (s : Session) (a : Sinks) → Going until count 0 s s a a
going-none until count s a = record { events = []; order = ap (λ n. forward until n s) (no-less count); long = refl; all = all-none s a }

pub going-begins : (until : Until) (count : ℕ) (a : Place) → GoingAt until count 0 a a
going-begins until count a = over-none (λ s t. Going until count 0 s t (sinks_in a) (sinks_in a)) a (λ around. going-none until count (session_of a.trail around) (sinks_in a))

-- where another step is due
forward-more : (until : Until) (n left : ℕ) (t : Session) (x : Next) → n ≡ suc left → step t.state ≡ x → forward until n t ≡ walk_by until t x (forward until left)
unfolding forward
forward-more until n left t x is same = ap (λ k. forward until k t) is ∙ ap (λ y. walk_by until t y (forward until left)) same

one-less : (count done : ℕ) → done < count → count - done ≡ suc (count - (done + 1))
one-less count done more = omega (arith, more)

after-one : (s t : Session) (e : Event) → t ≡ after s (e ∷ []) → e.after ≡ t
unfolding after
after-one s t e is = sym is

by-test : (b c : Bool) (x y : Walk) → b ≡ c → (if b then x else y) ≡ (if c then x else y)
by-test b c x y is = ap (λ d. if d then x else y) is

-- the walk after a step that goes on
went-order : (until : Until) (count done : ℕ) (test : Bool) (s t u : Session) (a b c : Sinks) (going : Going until count done s t a b) (went : GoesOn None t u b c) → done < count → stops until u ≡ test
    → forward until count s ≡ behind (going.events ++ steps_to t went.next went.effects ∷ []) (if test then halts None else forward until (count - (done + 1)) u)
went-order until count done test s t u a b c going went more is =
    let left : ℕ = count - (done + 1) in
    let event : Event = steps_to t went.next went.effects in
    let there : stepped t went.next ≡ u = after-one t u event went.played.end_is in
    let rest : (if stops until (stepped t went.next) then halts None else forward until left (stepped t went.next)) ≡ (if test then halts None else forward until left u) =
    ap (λ v. if stops until v then halts None else forward until left v) there ∙ by-test (stops until u) test (halts None) (forward until left u) is in
    going.order ∙ (ap (behind going.events) (forward-more until (count - done) left t _ (one-less count done more) went.goes ∙ ap (onward event) rest)
    ∙ behind-one going.events event (if test then halts None else forward until left u))

going-one : (until : Until) (count done : ℕ) (s t u : Session) (a b c : Sinks) → done < count → stops until u ≡ false → Going until count done s t a b → GoesOn None t u b c → Going until count (done + 1) s u a c
going-one until count done s t u a b c more is going went =
    let event : Event = steps_to t went.next went.effects in
    record {
      events = going.events ++ event ∷ [];
      order = went-order until count done false s t u a b c going went more is;
      long = length-one going.events event done going.long;
      all = all-more going.events (event ∷ []) s t u a b c going.all went.played;
    }

pub going-on : (until : Until) (count done : ℕ) (a b c : Place) → done < count → ((around : Around) → stops until (session_of c.trail around) ≡ false) → GoingAt until count done a b
    → Over None (λ s t. DoesOnce Went s t (sinks_in b) (sinks_in c)) b c → GoingAt until count (done + 1) a c
going-on until count done a b c more is going went =
    over-more None _ _ _ a b c (λ x y z so_far one. going-one until count done _ _ _ (sinks_in a) (sinks_in b) (sinks_in c) more (is z) so_far one) going went

there-one : (until : Until) (count done : ℕ) (s t u : Session) (a b c : Sinks) → done < count → stops until u ≡ true → Going until count done s t a b → GoesOn None t u b c
    → Walks (forward until count s) (record { done = done + 1; end = None }) s u a c
there-one until count done s t u a b c more is going went =
    let event : Event = steps_to t went.next went.effects in
    let order : forward until count s ≡ behind (going.events ++ event ∷ []) (halts None) = went-order until count done true s t u a b c going went more is in
    let steps : (forward until count s).steps ≡ going.events ++ event ∷ [] = ap (λ w. w.steps) order ∙ append-nil (going.events ++ event ∷ []) in
    record {
      all = subst (λ es. AllDone es s u a c) (sym steps) (all-more going.events (event ∷ []) s t u a b c going.all went.played);
      count = ap length steps ∙ length-one going.events event done going.long;
      ending = ap (λ w. w.ending) order;
    }

-- a walk ended where steps led
pub going-there : (until : Until) (count done : ℕ) (a b c : Place) → done < count → ((around : Around) → stops until (session_of c.trail around) ≡ true) → GoingAt until count done a b
    → Over None (λ s t. DoesOnce Went s t (sinks_in b) (sinks_in c)) b c → GoesForward until count a c (Ok (record { done = done + 1; end = None }))
going-there until count done a b c more is going went =
    over-more None _ _ _ a b c (λ x y z so_far one. there-one until count done _ _ _ (sinks_in a) (sinks_in b) (sinks_in c) more (is z) so_far one) going went

-- where the program ends
ended-at : (until : Until) (count done : ℕ) (end : End) (x : Next) (s t u : Session) (a b c : Sinks) → done < count → walk_by until t x (forward until (count - (done + 1))) ≡ halts (Some end)
    → Going until count done s t a b → EndsAt x t u b c → Walks (forward until count s) (record { done = done; end = Some end }) s u a c
ended-at until count done end x s t u a b c more is going ends =
    let order : forward until count s ≡ behind going.events (halts (Some end)) =
    going.order ∙ ap (behind going.events) (forward-more until (count - done) (count - (done + 1)) t x (one-less count done more) ends.ends ∙ is) in
    let steps : (forward until count s).steps ≡ going.events ++ [] = ap (λ w. w.steps) order in
    record {
      all = subst (λ es. AllDone es s u a c) (sym steps) (all-more going.events [] s t u a b c going.all ends.done);
      count = ap length (steps ∙ append-nil going.events) ∙ going.long;
      ending = ap (λ w. w.ending) order;
    }

ended-one : (until : Until) (count done : ℕ) (end : End) (s t u : Session) (a b c : Sinks) → done < count → Going until count done s t a b → DoesOnce (Ended end) t u b c
    → Walks (forward until count s) (record { done = done; end = Some end }) s u a c
ended-one until count done (Exit code) s t u a b c more going ends = ended-at until count done (Exit code) (Exits code) s t u a b c more refl going ends
ended-one until count done (Fault set fault) s t u a b c more going ends =
    ended-at until count done (Fault set fault) (Faults fault) s t u a b c more (ap (λ x. halts (Some (Fault x fault))) (sym ends.0)) going ends.1
ended-one until count done Limit s t u a b c more going ends = absurd ends

pub going-ended : (until : Until) (count done : ℕ) (end : End) (a b c : Place) → done < count → GoingAt until count done a b
    → Over None (λ s t. DoesOnce (Ended end) s t (sinks_in b) (sinks_in c)) b c → GoesForward until count a c (Ok (record { done = done; end = Some end }))
going-ended until count done end a b c more going ends =
    over-more None _ _ _ a b c (λ x y z so_far one. ended-one until count done end _ _ _ (sinks_in a) (sinks_in b) (sinks_in c) more so_far one) going ends

-- where the outside failed
halted-one : (until : Until) (count done : ℕ) (stopped : Broken) (s t u : Session) (a b c : Sinks) → done < count → Going until count done s t a b → GoesOn (Some stopped) t u b c
    → Played (Some stopped) (forward until count s).steps s u a c
halted-one until count done stopped s t u a b c more going went =
    let event : Event = steps_to t went.next went.effects in
    let rest : Walk = if stops until (stepped t went.next) then halts None else forward until (count - (done + 1)) (stepped t went.next) in
    let order : forward until count s ≡ behind going.events (onward event rest) =
    going.order ∙ ap (behind going.events) (forward-more until (count - done) (count - (done + 1)) t _ (one-less count done more) went.goes) in
    played-as (Some stopped) (going.events ++ (event ∷ rest.steps)) (forward until count s).steps s u a c (sym (ap (λ w. w.steps) order))
    (played-more (Some stopped) going.events (event ∷ rest.steps) s t u a b c going.all (played-front stopped (event ∷ []) rest.steps t u b c went.played))

pub going-halted : (until : Until) (count done : ℕ) (stopped : Broken) (a b c : Place) → done < count → GoingAt until count done a b
    → Over (Some stopped) (λ s t. DoesOnce (Halted stopped) s t (sinks_in b) (sinks_in c)) b c → GoesForward until count a c (Err stopped)
going-halted until count done stopped a b c more going went =
    over-more (Some stopped) _ _ _ a b c (λ x y z so_far one. halted-one until count done stopped _ _ _ (sinks_in a) (sinks_in b) (sinks_in c) more so_far one) going went

-- by how the step stopped
pub limit-on : (stop : Stop) → goes_on stop ≡ true → stop ≡ By.Limit
limit-on (By.Exit code) on = absurd (let e : false ≡ true = on in cc)
limit-on (By.Fault fault) on = absurd (let e : false ≡ true = on in cc)
limit-on By.Limit on = refl
limit-on By.ReadFault on = absurd (let e : false ≡ true = on in cc)
limit-on By.OutFault on = absurd (let e : false ≡ true = on in cc)
limit-on By.TraceFault on = absurd (let e : false ≡ true = on in cc)

pub going-on_by : (until : Until) (count done : ℕ) (a b c : Place) (set : Isa) (stop : Stop) → goes_on stop ≡ true → done < count → ((around : Around) → stops until (session_of c.trail around) ≡ false)
    → GoingAt until count done a b → Over (halt_in (once_of set stop)) (λ s t. DoesOnce (once_of set stop) s t (sinks_in b) (sinks_in c)) b c → GoingAt until count (done + 1) a c
going-on_by until count done a b c set (By.Exit code) on more is going went = absurd (let e : false ≡ true = on in cc)
going-on_by until count done a b c set (By.Fault fault) on more is going went = absurd (let e : false ≡ true = on in cc)
going-on_by until count done a b c set By.Limit on more is going went = going-on until count done a b c more is going went
going-on_by until count done a b c set By.ReadFault on more is going went = absurd (let e : false ≡ true = on in cc)
going-on_by until count done a b c set By.OutFault on more is going went = absurd (let e : false ≡ true = on in cc)
going-on_by until count done a b c set By.TraceFault on more is going went = absurd (let e : false ≡ true = on in cc)

pub going-there_by : (until : Until) (count done : ℕ) (a b c : Place) (set : Isa) (stop : Stop) → goes_on stop ≡ true → done < count → ((around : Around) → stops until (session_of c.trail around) ≡ true)
    → GoingAt until count done a b → Over (halt_in (once_of set stop)) (λ s t. DoesOnce (once_of set stop) s t (sinks_in b) (sinks_in c)) b c
    → GoesForward until count a c (Ok (record { done = done + 1; end = None }))
going-there_by until count done a b c set (By.Exit code) on more is going went = absurd (let e : false ≡ true = on in cc)
going-there_by until count done a b c set (By.Fault fault) on more is going went = absurd (let e : false ≡ true = on in cc)
going-there_by until count done a b c set By.Limit on more is going went = going-there until count done a b c more is going went
going-there_by until count done a b c set By.ReadFault on more is going went = absurd (let e : false ≡ true = on in cc)
going-there_by until count done a b c set By.OutFault on more is going went = absurd (let e : false ≡ true = on in cc)
going-there_by until count done a b c set By.TraceFault on more is going went = absurd (let e : false ≡ true = on in cc)

-- where the program does not go on
going-off : (until : Until) (count done : ℕ) (a b c : Place) (set : Isa) (stop : Stop) → goes_on stop ≡ false → done < count
    → GoingAt until count done a b → Over (halt_in (once_of set stop)) (λ s t. DoesOnce (once_of set stop) s t (sinks_in b) (sinks_in c)) b c
    → GoesForward until count a c (ended_by done (once_of set stop))
going-off until count done a b c set (By.Exit code) off more going went = going-ended until count done (Exit code) a b c more going went
going-off until count done a b c set (By.Fault fault) off more going went = going-ended until count done (Fault set fault) a b c more going went
going-off until count done a b c set By.Limit off more going went = absurd (let e : true ≡ false = off in cc)
going-off until count done a b c set By.ReadFault off more going went = going-halted until count done Halt.Input a b c more going went
going-off until count done a b c set By.OutFault off more going went = going-halted until count done Halt.Output a b c more going went
going-off until count done a b c set By.TraceFault off more going went = going-halted until count done Halt.Trace a b c more going went

pub going-off_by : (until : Until) (count done : ℕ) (a b c : Place) (set : Isa) (stop : Stop) (result : Result Walked Broken) → result ≡ ended_by done (once_of set stop) → goes_on stop ≡ false → done < count
    → GoingAt until count done a b → Over (halt_in (once_of set stop)) (λ s t. DoesOnce (once_of set stop) s t (sinks_in b) (sinks_in c)) b c → GoesForward until count a c result
going-off_by until count done a b c set stop result is off more going went = subst (GoesForward until count a c) (sym is) (going-off until count done a b c set stop off more going went)

-- where all steps were done
forward-none : (until : Until) (n : ℕ) (t : Session) → n ≡ 0 → forward until n t ≡ halts None
unfolding forward
forward-none until n t none = ap (λ k. forward until k t) none

all-one : (until : Until) (count done : ℕ) (s t : Session) (a b : Sinks) → count ≤ done → Going until count done s t a b → Walks (forward until count s) (record { done = done; end = None }) s t a b
all-one until count done s t a b few going =
    let none : count - done ≡ 0 = omega (arith, few) in
    let order : forward until count s ≡ behind going.events (halts None) = going.order ∙ ap (behind going.events) (forward-none until (count - done) t none) in
    let steps : (forward until count s).steps ≡ going.events = ap (λ w. w.steps) order ∙ append-nil going.events in
    record { all = subst (λ es. AllDone es s t a b) (sym steps) going.all; count = ap length steps ∙ going.long; ending = ap (λ w. w.ending) order }

pub going-ends : (until : Until) (count done : ℕ) (a b : Place) → count ≤ done → GoingAt until count done a b → GoesForward until count a b (Ok (record { done = done; end = None }))
going-ends until count done a b few going = over-same None _ _ a b (λ x y so_far. all-one until count done _ _ (sinks_in a) (sinks_in b) few so_far) going

-- ---- back

pub record Backing (count done : ℕ) (s t : Session) : Type 0 where
  pub events : List Event
  pub order : backward count s ≡ behind events (backward (count - done) t)
  pub long : length events ≡ done
  pub end_is : t ≡ after s events
  pub said : said_by events ≡ []
  pub traced : lines_by events ≡ []

pub backing-begins : (count : ℕ) (s : Session) → Backing count 0 s s
unfolding after said_by lines_by
backing-begins count s = record { events = []; order = ap (λ n. backward n s) (no-less count); long = refl; end_is = refl; said = refl; traced = refl }

backward-more : (n left : ℕ) (t : Session) (p : Past) (ps : List Past) → n ≡ suc left → t.past ≡ p ∷ ps → backward n t ≡ onward (goes_back t p ps) (backward left (returned t p ps))
unfolding backward
backward-more n left t p ps is past = ap (λ k. backward k t) is ∙ ap (λ qs. back_by t qs (backward left)) past

back-none : (n left : ℕ) (t : Session) → n ≡ suc left → t.past ≡ [] → backward n t ≡ halts None
unfolding backward
back-none n left t is past = ap (λ k. backward k t) is ∙ ap (λ qs. back_by t qs (backward left)) past

backward-none : (n : ℕ) (t : Session) → n ≡ 0 → backward n t ≡ halts None
unfolding backward
backward-none n t none = ap (λ k. backward k t) none

-- a step back of a debugger
record WentBack (s t : Session) : Type 0 where
  pub first : Past
  pub rest : List Past
  pub past : s.past ≡ first ∷ rest
  pub is : t ≡ returned s first rest

went-back : (m : Machine) (kept : List Kept) (breaks : List ℕ) (new : Trail) (around : Around) → TakesBack true kept (record { machine = m; kept = kept; breaks = breaks }) new
    → WentBack (session_of (record { machine = m; kept = kept; breaks = breaks }) around) (session_of new around)
went-back m [] breaks new around takes = let no : true ≡ false = takes.0 in cc
went-back m (k ∷ ks) breaks new around takes = record { first = past_of k; rest = map past_of ks; past = refl; is = ap (λ t. session_of t around) takes.1 }

stayed : (m : Machine) (kept : List Kept) (breaks : List ℕ) (new : Trail) → TakesBack false kept (record { machine = m; kept = kept; breaks = breaks }) new
    → (new ≡ record { machine = m; kept = kept; breaks = breaks }) × (kept ≡ [])
stayed m [] breaks new takes = (takes.1, refl)
stayed m (k ∷ ks) breaks new takes = let no : false ≡ true = takes.0 in cc

nothing-said : (es : List Event) (e : Event) → e.said ≡ [] → said_by es ≡ [] → said_by (es ++ e ∷ []) ≡ []
unfolding said_by
nothing-said es e none before = said-append es (e ∷ []) ∙ (ap (λ xs. xs ++ (e.said ++ [])) before ∙ ap (λ xs. xs ++ []) none)

nothing-traced : (es : List Event) (e : Event) → e.line ≡ [] → lines_by es ≡ [] → lines_by (es ++ e ∷ []) ≡ []
unfolding lines_by
nothing-traced es e none before = lines-append es (e ∷ []) ∙ (ap (λ xs. xs ++ (e.line ++ [])) before ∙ ap (λ xs. xs ++ []) none)

after-more : (s t u : Session) (es : List Event) (e : Event) → t ≡ after s es → u ≡ e.after → u ≡ after s (es ++ e ∷ [])
unfolding after
after-more s t u es e first is = is ∙ sym (after-append s es (e ∷ []))

pub backing-on : (count done : ℕ) (s : Session) (old new : Trail) (around : Around) (took : Bool) → done < count → took ≡ true → TakesBack took old.kept old new
    → Backing count done s (session_of old around) → Backing count (done + 1) s (session_of new around)
backing-on count done s old new around took more is takes backing =
    let own = went-back old.machine old.kept old.breaks new around (subst (λ b. TakesBack b old.kept old new) is takes) in
    let t : Session = session_of old around in
    let event : Event = goes_back t own.first own.rest in
    let left : ℕ = count - (done + 1) in
    record {
      events = backing.events ++ event ∷ [];
      order = backing.order ∙ (ap (behind backing.events) (backward-more (count - done) left t own.first own.rest (one-less count done more) own.past ∙ ap (λ u. onward event (backward left u)) (sym own.is))
          ∙ behind-one backing.events event (backward left (session_of new around)));
      long = length-one backing.events event done backing.long;
      end_is = after-more s t (session_of new around) backing.events event backing.end_is own.is;
      said = nothing-said backing.events event refl backing.said;
      traced = nothing-traced backing.events event refl backing.traced;
    }

walks-back : (count done : ℕ) (s t : Session) → backward (count - done) t ≡ halts None → Backing count done s t → WalksBack (backward count s) (record { done = done; end = None }) s t
walks-back count done s t none backing =
    let order : backward count s ≡ behind backing.events (halts None) = backing.order ∙ ap (behind backing.events) none in
    let steps : (backward count s).steps ≡ backing.events = ap (λ w. w.steps) order ∙ append-nil backing.events in
    record {
      end_is = backing.end_is ∙ ap (after s) (sym steps);
      said = ap said_by steps ∙ backing.said;
      traced = ap lines_by steps ∙ backing.traced;
      count = ap length steps ∙ backing.long;
      ending = ap (λ w. w.ending) order;
    }

pub backing-ends : (count done : ℕ) (s t : Session) → count ≤ done → Backing count done s t → WalksBack (backward count s) (record { done = done; end = None }) s t
backing-ends count done s t few backing = walks-back count done s t (backward-none (count - done) t (let none : count - done ≡ 0 = omega (arith, few) in none)) backing

pub backing-stays : (count done : ℕ) (s : Session) (old new : Trail) (around : Around) (took : Bool) → done < count → took ≡ false → TakesBack took old.kept old new
    → Backing count done s (session_of old around) → WalksBack (backward count s) (record { done = done; end = None }) s (session_of new around)
backing-stays count done s old new around took more is takes backing =
    let own = stayed old.machine old.kept old.breaks new (subst (λ b. TakesBack b old.kept old new) is takes) in
    subst (λ t. WalksBack (backward count s) (record { done = done; end = None }) s (session_of t around)) (sym own.0)
    (walks-back count done s (session_of old around) (back-none (count - done) (count - (done + 1)) (session_of old around) (one-less count done more) (ap (map past_of) own.1)) backing)
