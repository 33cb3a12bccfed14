-- A step of a walker for the first time.
use Rattle.std.proofs.Common.{◌≡◌, ℕ, suc, ◌+◌, ◌-◌, ◌<◌, ◌≤◌, true, false, List, ◌∷◌, length, take, drop, refl, sym, ap, ◌∙◌, subst, arith}
use Rattle.mix_bits.specs.declared.fault.Fault.{Fault as AFault}
use Rattle.mix_io.specs.Counts.{Rose}
use Rattle.mix_io.specs.Streams.{Breaks, Grows, Output}
use Rattle.dev_rack.specs.Rack.{State as Rack}
use Rattle.mixed_machine.specs.declared.stop.Stop.{Stop}
use Rattle.mixed_machine.specs.declared.stop.Stop.TheVariants as By
use Rattle.mixed_machine.specs.Exec.{GoesTo, Leads, line_of, log, log_then, said_of}
use Rattle.mixed_machine.specs.Exec.End.{Ended as EndedAs}
use Rattle.mixed_machine.specs.Exec.How.{Limited}
use Rattle.mixed_machine.specs.Next.{Effects, Next}
use Rattle.mixed_machine.specs.Next.Next.{Goes, Exits}
use Rattle.mixed_machine.specs.Runs.{Sinks, SinksTook, Stops}
use Rattle.mixed_machine.specs.State.{State}
use Rattle.mixed_machine.specs.Step.{step}
use Rattle.mix_debug.specs.TrailsClauses.{Trail, is_done}
use Rattle.dev_rack.specs.declared.devices.Devices.{Ghosts}
use Rattle.gdb_steps.specs.Places.{Begin, Given, IsRun, first_state, state_at}
use Rattle.gdb_steps.specs.Points.{Points}
use Rattle.gdb_steps.specs.Walkers.{run_of, sinks}
use Rattle.gdb_steps.specs.Walks.{Comes, GoesForward, Tells, walk}
use Rattle.gdb_steps.specs.declared.halt.Halt.TheVariants.{End}
use Rattle.gdb_steps.specs.declared.halt.Until.{Until}
use Rattle.gdb_steps.specs.declared.snapshot.Snapshot.{Snapshot}
use Rattle.gdb_steps.specs.declared.used.Used.{Used}
use Rattle.gdb_steps.specs.declared.walker.Walker.{Walker}
use Rattle.gdb_steps.specs.inner.Goings.{given}
use Rattle.gdb_steps.specs.inner.Onces.{AfterFirst, Counted, FirstStep, Stays}
use Rattle.gdb_steps.specs.inner.Steps.{Steps, stands}
use Rattle.gdb_steps.proofs.Alone.{exited-one, faulted-one, none-led, stays-led, went-one}
use Rattle.gdb_steps.proofs.Doing.{done-goes, not-done-stays, place}
use Rattle.gdb_steps.proofs.Firsts.{First, first-done, run}
use Rattle.gdb_steps.proofs.Goings.{log-none}
use Rattle.gdb_steps.proofs.Onward.{Ended, Went, ended-halts, walk-exits, walk-faults}
use Rattle.gdb_steps.proofs.Stood.{Stood, first-stood}

-- the same run, by other words
pub rerun : (b : Begin) (i j : List ℕ) (e : Trail) (v w : Used) (s : Rack) (k l : ℕ) (us vs : List Used) (f g : ℕ) (ss ts : List Snapshot) → j ≡ i → w ≡ v → l ≡ k → vs ≡ us → g ≡ f → ts ≡ ss
    → IsRun b (run i e v s k us f ss) → IsRun b (run j e w s l vs g ts)
rerun b i j e v w s k l us vs f g ss ts same used steps past furthest kept is =
    subst (λ x. IsRun b (run x e w s l vs g ts)) (sym same)
    (subst (λ x. IsRun b (run i e x s l vs g ts)) (sym used)
    (subst (λ x. IsRun b (run i e v s x vs g ts)) (sym steps)
    (subst (λ x. IsRun b (run i e v s k x g ts)) (sym past)
    (subst (λ x. IsRun b (run i e v s k us x ts)) (sym furthest)
    (subst (λ x. IsRun b (run i e v s k us f x)) (sym kept) is)))))

-- where the input is the same
pub given-same : (i j : List ℕ) (r : Rack) → j ≡ i → given j r.journal (length r.slots) ≡ given i r.journal (length r.slots)
given-same i j r same = ap (λ x. given x r.journal (length r.slots)) same

one-state : (s t : State) → EndedAs Limited s 0 ≡ EndedAs Limited t 0 → s ≡ t
one-state s t e = cc

pub only-state : (n : ℕ) (s t u : State) → Leads 0 n s t → Leads 0 n s u → t ≡ u
only-state n s t u first then = one-state t u (sym first ∙ then)

-- the step with what is used up behind it
stepped : {D : Type 0} {G : Ghosts D} (w v : Walker D G) (o p t u : Output) (stop : Stop) (n : ℕ) → v.used.input ≡ n
    → Steps w.debug v.debug (stands w.debug (drop w.used.input w.input.items) w.real o t) (stands v.debug (drop n w.input.items) v.real p u) stop
    → Steps w.debug v.debug (stands w.debug (drop w.used.input w.input.items) w.real o t) (stands v.debug (drop v.used.input w.input.items) v.real p u) stop
stepped w v o p t u stop n is steps = subst (λ k. Steps w.debug v.debug (stands w.debug (drop w.used.input w.input.items) w.real o t) (stands v.debug (drop k w.input.items) v.real p u) stop) (sym is) steps

by-done : {D : Type 0} {G : Ghosts D} (w v : Walker D G) (o p t u : Output) (stop : Stop) (b : Begin) (first : FirstStep w v o p t u stop) → is_done stop ≡ true → Counted first.taken v.real w v
    → IsRun b (run_of w) → w.steps ≡ w.furthest → First b w.input.items w.debug v.debug w.used v.used w.real v.real w.steps w.past.items w.past.capacity w.snapshots o p t u stop
by-done w v o p t u stop b first done counted is same =
    first-done b w.input.items w.debug v.debug w.used v.used w.real v.real w.steps w.furthest w.past.items w.past.capacity w.snapshots o p t u stop done
    (stepped w v o p t u stop first.taken counted.input first.step) is same counted.asks counted.held

done-run : {D : Type 0} {G : Ghosts D} (w v : Walker D G) (o p t u : Output) (stop : Stop) (b : Begin) (first : FirstStep w v o p t u stop) → Counted first.taken v.real w v → v.furthest ≡ v.steps
    → First b w.input.items w.debug v.debug w.used v.used w.real v.real w.steps w.past.items w.past.capacity w.snapshots o p t u stop → IsRun b (run_of v)
done-run w v o p t u stop b first counted far done =
    rerun b w.input.items v.input.items v.debug v.used v.used v.real (suc w.steps) v.steps (take w.past.capacity (w.used ∷ w.past.items)) v.past.items (suc w.steps) v.furthest w.snapshots v.snapshots
    first.keeps.input refl counted.steps counted.past (far ∙ counted.steps) first.keeps.snapshots done.is

one-further : (k f g : ℕ) → k ≡ f → g ≡ suc k → g - f ≡ 1
one-further k f g e h = omega (arith, e, h)

goes-there : (s t : State) → ((effects : Effects) × (step s ≡ Goes t effects)) → GoesTo (step s) t
goes-there s t goes = subst (λ x. GoesTo x t) (sym goes.1) refl

-- a line at which the trace failed
trace-tells : (left j : ℕ) (s t : State) (a c : Sinks) → j ≡ 1 → Stops 0 1 left s t a c By.TraceFault → Tells (End By.TraceFault) j s a c
trace-tells left j s t a c one ran =
    let fewer : left < 1 = ran.fewer in
    let none : 1 - suc left ≡ 0 = omega (arith, fewer) in
    let whole : 1 - left ≡ j = omega (arith, fewer, one) in
    let same : s ≡ ran.last = none-led _ _ (subst (λ k. Leads 0 k s ran.last) none ran.leads) in (
      0,
      s,
      one,
      stays-led s,
      subst (λ n. Grows a.out c.out (log said_of n s)) whole ran.said,
      subst (λ n. Breaks a.trace c.trace (log line_of n s) (line_of (step s))) none (subst (λ x. Breaks a.trace c.trace (log line_of (1 - suc left) s) (line_of (step x))) (sym same) ran.traced),
    )

pub first-went : {D : Type 0} {G : Ghosts D} (w v : Walker D G) (o p t u : Output) (b : Begin) → FirstStep w v o p t u By.Limit → IsRun b (run_of w) → w.steps ≡ w.furthest
    → Went b (run_of w) (run_of v) (sinks o t) (sinks p u)
first-went w v o p t u b first is same =
    let counted = first.after.0 in
    let far : v.furthest ≡ suc w.steps = first.after.1 ∙ counted.steps in
    let done = by-done w v o p t u By.Limit b first refl counted is same in
    let g : Given = given w.input.items v.real.journal (length v.real.slots) in
    let g_is : (run_of v).given ≡ g = given-same w.input.items v.input.items v.real first.keeps.input in
    record {
      run = done-run w v o p t u By.Limit b first counted first.after.1 done;
      more = record { asks = done.more.asks; is = g_is ∙ done.more.is };
      steps = counted.steps;
      further = up w.steps w.furthest v.furthest same far;
      few = is.here.asks;
      old = first.step.here;
      new = first.step.there;
      goes = λ rest.
          subst (λ h. (effects : Effects) × (step (state_at h (place w.debug w.used) rest) ≡ Goes (state_at h (place v.debug v.used) rest) effects)) (sym g_is)
          (done-goes 1 done.left _ _ (sinks o t) (sinks p u) By.Limit refl done.few (done.stops rest));
      told = λ rest s leads.
          let was : Leads 0 w.furthest (first_state b g rest) s = subst (λ h. Leads 0 w.furthest (first_state b h rest) s) g_is leads in
          let here : state_at g (place w.debug w.used) rest ≡ s = only-state w.furthest _ _ _ (subst (λ n. Leads 0 n (first_state b g rest) (state_at g (place w.debug w.used) rest)) same (done.here.leads rest)) was in
          let ran = done.stops rest in
          let none = (went-one _ _ done.left ran.ends).none in
          subst (λ n. SinksTook n s (sinks o t) (sinks p u)) (counts done.left w.furthest v.furthest w.steps none far same)
          (subst (λ x. SinksTook (1 - done.left) x (sinks o t) (sinks p u)) here ran.took);
    }
  where
    up : (k f g : ℕ) → k ≡ f → g ≡ suc k → f ≤ g
    up k f g e h = omega (arith, e, h)

    counts : (left f g k : ℕ) → left ≡ 0 → g ≡ suc k → k ≡ f → 1 - left ≡ g - f
    counts left f g k none h e = omega (arith, none, h, e)

-- ---- a step that ends the program, or at which a sink fails

by-stood : {D : Type 0} {G : Ghosts D} (w v : Walker D G) (o p t u : Output) (stop : Stop) (b : Begin) (first : FirstStep w v o p t u stop) → is_done stop ≡ false → Stays w v
    → IsRun b (run_of w) → w.steps ≡ w.furthest
    → Stood b w.input.items w.debug v.debug w.used w.real (given w.input.items v.real.journal (length v.real.slots)) (run w.input.items v.debug w.used v.real w.steps w.past.items w.furthest w.snapshots) o p t u stop
by-stood w v o p t u stop b first not_done stays is same =
    first-stood b w.input.items w.debug v.debug w.used (drop first.taken w.input.items) w.real v.real w.steps w.furthest w.past.items w.snapshots o p t u stop not_done first.step is same

pub same-place : (d e : Trail) (u v : Used) → e.machine ≡ d.machine → v ≡ u → place e v ≡ place d u
same-place d e u v machine used = ap (λ m. record { machine = m; used = v }) machine ∙ ap (λ x. record { machine = d.machine; used = x }) used

stood-ended : {D : Type 0} {G : Ghosts D} (w v : Walker D G) (o p t u : Output) (stop : Stop) (b : Begin) (first : FirstStep w v o p t u stop) → Stays w v
    → Stood b w.input.items w.debug v.debug w.used w.real (given w.input.items v.real.journal (length v.real.slots)) (run w.input.items v.debug w.used v.real w.steps w.past.items w.furthest w.snapshots) o p t u stop
    → Ended b (run_of w) (run_of v)
stood-ended w v o p t u stop b first stays stood =
    record {
      run = rerun b w.input.items v.input.items v.debug w.used v.used v.real w.steps v.steps w.past.items v.past.items w.furthest v.furthest w.snapshots v.snapshots
          first.keeps.input stays.used stays.steps stays.past stays.furthest first.keeps.snapshots stood.is;
      more = record { asks = stood.more.asks; is = given-same w.input.items v.input.items v.real first.keeps.input ∙ stood.more.is };
      steps = stays.steps;
      furthest = stays.furthest;
      same = same-place w.debug v.debug w.used v.used stood.same stays.used;
    }

log-exit : (pick : Next → List ℕ) (s : State) (code done : ℕ) → done ≡ 1 → step s ≡ Exits code → log pick done s ≡ pick (Exits code)
unfolding log
log-exit pick s code done one exits = ap (λ n. log pick n s) one ∙ ap (λ x. log_then pick x (log pick 0)) exits

exits-none : (left code : ℕ) (s t : State) (a c : Sinks) → left ≤ 1 → Stops 0 1 left s t a c (By.Exit code) → SinksTook 0 s a c
exits-none left code s t a c few ran =
    let own = exited-one s t left code ran.ends in
    let one : 1 - left ≡ 1 = (let none = own.left_is in omega (arith, none)) in
    record {
      said = subst (Grows a.out c.out) (log-exit said_of s code (1 - left) one own.ends ∙ sym (log-none said_of s 0 refl)) ran.took.said;
      traced = subst (Grows a.trace c.trace) (log-exit line_of s code (1 - left) one own.ends ∙ sym (log-none line_of s 0 refl)) ran.took.traced;
    }

faults-none : (left : ℕ) (fault : AFault) (s t : State) (a c : Sinks) → left ≤ 1 → Stops 0 1 left s t a c (By.Fault fault) → SinksTook 0 s a c
faults-none left fault s t a c few ran =
    let own = faulted-one s t left fault ran.ends in
    let none : 1 - left ≡ 0 = (let one = own.left_is in omega (arith, one)) in
    subst (λ n. SinksTook n s a c) none ran.took

-- what the sinks took, and the state behind the step, of one that is not done
pub stood-comes : (p : Points) (until : Until) (m left : ℕ) (stop : Stop) (s t : State) (a c : Sinks) → is_done stop ≡ false → (stop ≡ By.ReadFault → ⊥) → left ≤ 1 → Stops 0 1 left s t a c stop → Comes p until (suc m) (suc m) (End stop) s s
stood-comes p until m left (By.Exit code) s t a c not_done never few ran = walk-exits p until m s code (exited-one s t left code ran.ends).ends
stood-comes p until m left (By.Fault fault) s t a c not_done never few ran = walk-faults p until m s fault (faulted-one s t left fault ran.ends).ends
stood-comes p until m left By.Limit s t a c not_done never few ran = cc
stood-comes p until m left By.ReadFault s t a c not_done never few ran = absurd (never refl)
stood-comes p until m left By.OutFault s t a c not_done never few ran = refl
stood-comes p until m left By.TraceFault s t a c not_done never few ran = cc

stood-tells : (left : ℕ) (stop : Stop) (s t : State) (a c : Sinks) → is_done stop ≡ false → left ≤ 1 → t ≡ s → Leads 0 0 s s → Stops 0 1 left s t a c stop → Tells (End stop) 0 s a c
stood-tells left (By.Exit code) s t a c not_done few same stays ran = exits-none left code s t a c few ran
stood-tells left (By.Fault fault) s t a c not_done few same stays ran = faults-none left fault s t a c few ran
stood-tells left By.Limit s t a c not_done few same stays ran = cc
stood-tells left By.ReadFault s t a c not_done few same stays ran =
    let some : 0 < left = ran.some in
    let none : 1 - left ≡ 0 = omega (arith, some, few) in
    subst (λ n. SinksTook n s a c) none ran.took
stood-tells left By.OutFault s t a c not_done few same stays ran =
    let some : 0 < left = ran.some in
    let none : 1 - left ≡ 0 = omega (arith, some, few) in (
      s,
      stays,
      subst (λ x. Breaks a.out c.out (log said_of 0 s) (said_of (step x))) same (subst (λ n. Breaks a.out c.out (log said_of n s) (said_of (step t))) none ran.said),
      subst (λ n. Grows a.trace c.trace (log line_of n s)) none ran.traced,
    )
stood-tells left By.TraceFault s t a c not_done few same stays ran = cc

-- ---- the input never fails

no-rise : Rose 0 0 → ⊥
no-rise rose = grind arith

pub never-reads : (d e : Trail) (xs ys : List ℕ) (r s : Rack) (o w t x : Output) (stop : Stop) → Steps d e (stands d xs r o t) (stands e ys s w x) stop → stop ≡ By.ReadFault → ⊥
never-reads d e xs ys r s o w t x (By.Exit code) steps is = cc
never-reads d e xs ys r s o w t x (By.Fault fault) steps is = cc
never-reads d e xs ys r s o w t x By.Limit steps is = cc
never-reads d e xs ys r s o w t x By.ReadFault steps is = no-rise steps.blames.input
never-reads d e xs ys r s o w t x By.OutFault steps is = cc
never-reads d e xs ys r s o w t x By.TraceFault steps is = cc

pub first-ended : {D : Type 0} {G : Ghosts D} (w v : Walker D G) (o p t u : Output) (stop : Stop) (b : Begin) (points : Points) (until : Until) (m : ℕ) → is_done stop ≡ false → FirstStep w v o p t u stop
    → IsRun b (run_of w) → w.steps ≡ w.furthest → GoesForward b points until (suc m) (End stop) (run_of w) (run_of v) (sinks o t) (sinks p u)
first-ended w v o p t u stop b points until m not_done first is same =
    let stays : Stays w v = subst (λ done. AfterFirst done first.taken w v) not_done first.after in
    let stood = by-stood w v o p t u stop b first not_done stays is same in
    let ended = stood-ended w v o p t u stop b first stays stood in
    let g : Given = given w.input.items v.real.journal (length v.real.slots) in
    let g_is : (run_of v).given ≡ g = given-same w.input.items v.input.items v.real first.keeps.input in
    ended-halts b points until m stop (run_of w) (run_of v) (sinks o t) (sinks p u) ended
    (λ rest. subst (λ q. Comes points until (suc m) (suc m) (End stop) (state_at (run_of v).given (place w.debug w.used) rest) (state_at (run_of v).given q rest)) (sym ended.same)
    (subst (λ h. Comes points until (suc m) (suc m) (End stop) (state_at h (place w.debug w.used) rest) (state_at h (place w.debug w.used) rest)) (sym g_is)
    (stood-comes points until m stood.left stop _ _ (sinks o t) (sinks p u) not_done (never-reads w.debug v.debug _ _ w.real v.real o p t u stop first.step) stood.few (stood.stops rest))))
    (λ rest s leads.
    let was : Leads 0 w.furthest (first_state b g rest) s = subst (λ h. Leads 0 w.furthest (first_state b h rest) s) g_is leads in
    let here : state_at g (place w.debug w.used) rest ≡ s = only-state w.furthest _ _ _ (subst (λ n. Leads 0 n (first_state b g rest) (state_at g (place w.debug w.used) rest)) same (stood.here.leads rest)) was in
    subst (λ x. Tells (End stop) 0 x (sinks o t) (sinks p u)) here
    (stood-tells stood.left stop _ _ (sinks o t) (sinks p u) not_done stood.few (not-done-stays stood.left _ _ (sinks o t) (sinks p u) stop not_done stood.few (stood.stops rest)) (stays-led _) (stood.stops rest)))

-- ---- a step that is done, but the trace fails at its line

pub first-traced : {D : Type 0} {G : Ghosts D} (w v : Walker D G) (o p t u : Output) (b : Begin) (points : Points) (until : Until) (m : ℕ) → FirstStep w v o p t u By.TraceFault
    → IsRun b (run_of w) → w.steps ≡ w.furthest → GoesForward b points until (suc m) (End By.TraceFault) (run_of w) (run_of v) (sinks o t) (sinks p u)
first-traced w v o p t u b points until m first is same =
    let counted = first.after.0 in
    let far : v.furthest ≡ suc w.steps = first.after.1 ∙ counted.steps in
    let done = by-done w v o p t u By.TraceFault b first refl counted is same in
    let g : Given = given w.input.items v.real.journal (length v.real.slots) in
    let g_is : (run_of v).given ≡ g = given-same w.input.items v.input.items v.real first.keeps.input in
    record {
      run = done-run w v o p t u By.TraceFault b first counted first.after.1 done;
      later = one-later w.steps v.steps counted.steps;
      within = one-within w.steps v.steps m counted.steps;
      further = up w.steps w.furthest v.furthest same far;
      more = (done.more.asks, g_is ∙ done.more.is);
      comes = λ rest.
          subst (λ h. Comes points until (suc m) (w.steps + suc m - v.steps) (End By.TraceFault) (state_at h (place w.debug w.used) rest) (state_at h (place v.debug v.used) rest)) (sym g_is) (
            state_at g (place w.debug w.used) rest,
            ap (λ n. walk points until n (state_at g (place w.debug w.used) rest)) (left-is w.steps v.steps m counted.steps),
            goes-there _ _ (done-goes 1 done.left _ _ (sinks o t) (sinks p u) By.TraceFault refl done.few (done.stops rest)),
          );
      told = λ rest s leads.
          let was : Leads 0 w.furthest (first_state b g rest) s = subst (λ h. Leads 0 w.furthest (first_state b h rest) s) g_is leads in
          let here : state_at g (place w.debug w.used) rest ≡ s = only-state w.furthest _ _ _ (subst (λ n. Leads 0 n (first_state b g rest) (state_at g (place w.debug w.used) rest)) same (done.here.leads rest)) was in
          subst (λ x. Tells (End By.TraceFault) (v.furthest - w.furthest) x (sinks o t) (sinks p u)) here
          (trace-tells done.left (v.furthest - w.furthest) _ _ (sinks o t) (sinks p u) (one-further w.steps w.furthest v.furthest same far) (done.stops rest));
    }
  where
    up : (k f g : ℕ) → k ≡ f → g ≡ suc k → f ≤ g
    up k f g e h = omega (arith, e, h)

    one-later : (r s : ℕ) → s ≡ suc r → r ≤ s
    one-later r s e = omega (arith, e)

    one-within : (r s m : ℕ) → s ≡ suc r → s ≤ r + suc m
    one-within r s m e = omega (arith, e)

    left-is : (r s m : ℕ) → s ≡ suc r → suc m ≡ suc (r + suc m - s)
    left-is r s m e = omega (arith, e)
