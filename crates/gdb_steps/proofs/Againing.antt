-- A step of a walker that is done again.
use Rattle.std.proofs.Common.{◌≡◌, ℕ, suc, ◌-◌, ◌<◌, ◌≤◌, Bool, true, false, List, ◌∷◌, ◌++◌, length, map, take, drop, is_some, Option, refl, sym, ap, ◌∙◌, subst, arith}
use Rattle.mix_io.specs.Counts.{Rose}
use Rattle.dev_rack.specs.Rack.{State as Rack}
use Rattle.dev_rack.specs.declared.answers.Asked.{Asked}
use Rattle.mixed_machine.specs.declared.stop.Stop.{Stop}
use Rattle.mixed_machine.specs.declared.stop.Stop.TheVariants as By
use Rattle.mixed_machine.specs.Exec.{Leads}
use Rattle.mixed_machine.specs.Machine.{flat}
use Rattle.mixed_machine.specs.Next.{Effects}
use Rattle.mixed_machine.specs.Next.Next.{Goes}
use Rattle.mixed_machine.specs.Runs.{Sinks}
use Rattle.mixed_machine.specs.State.{State}
use Rattle.mixed_machine.specs.Step.{step}
use Rattle.mix_engine.specs.Ends.{goes_on}
use Rattle.mix_debug.specs.TrailsClauses.{Trail, is_done}
use Rattle.dev_rack.specs.declared.devices.Devices.{Ghosts}
use Rattle.toolbox.specs.Calls.{answers_since}
use Rattle.toolbox.specs.inner.Parts.{around_of}
use Rattle.gdb_steps.specs.Places.{Begin, IsFront, IsRun, answers_of, state_at}
use Rattle.gdb_steps.specs.Points.{Points}
use Rattle.gdb_steps.specs.Walkers.{run_of, sinks}
use Rattle.gdb_steps.specs.Walks.{Comes, GoesForward, Strays, Tells}
use Rattle.gdb_steps.specs.declared.halt.Halt.TheVariants.{End}
use Rattle.gdb_steps.specs.declared.halt.Until.{Until}
use Rattle.gdb_steps.specs.declared.snapshot.Snapshot.{Snapshot}
use Rattle.gdb_steps.specs.declared.used.Used.{Used}
use Rattle.gdb_steps.specs.declared.walker.Walker.{Walker}
use Rattle.gdb_steps.specs.inner.Goings.{given}
use Rattle.gdb_steps.specs.inner.Onces.{AfterAgain, AgainStep, Stays, nothing}
use Rattle.gdb_steps.specs.inner.Steps.{Steps, stands}
use Rattle.gdb_steps.proofs.Alone.{goes-led}
use Rattle.gdb_steps.proofs.Doing.{done-goes, place}
use Rattle.gdb_steps.proofs.Firsting.{never-reads, rerun, same-place, stood-comes}
use Rattle.gdb_steps.proofs.Firsts.{Again, again-done, run}
use Rattle.gdb_steps.proofs.Goings.{more-none, took-none}
use Rattle.gdb_steps.proofs.Onward.{Ended, Went, ended-halts}
use Rattle.gdb_steps.proofs.Standing.{around-is, since-is}
use Rattle.gdb_steps.proofs.Stood.{again-stood}

-- devices are the same
real-same : (i j : List ℕ) (r s : Rack) → j ≡ i → s ≡ r → given j s.journal (length s.slots) ≡ given i r.journal (length r.slots)
real-same i j r s same real = ap (λ x. given x s.journal (length s.slots)) same ∙ ap (λ x. given i x.journal (length x.slots)) real

rerack : (b : Begin) (i : List ℕ) (e : Trail) (v : Used) (r s : Rack) (k : ℕ) (us : List Used) (f : ℕ) (ss : List Snapshot) → s ≡ r → IsRun b (run i e v r k us f ss) → IsRun b (run i e v s k us f ss)
rerack b i e v r s k us f ss same is = subst (λ x. IsRun b (run i e v x k us f ss)) (sym same) is

no-steps : (k f : ℕ) → k ≡ f → k - f ≡ 0
no-steps k f e = omega (arith, e)

-- ---- it goes on, as before

pub again-went : {D : Type 0} {G : Ghosts D} (w v : Walker D G) (b : Begin) (x : Sinks) → AgainStep w v By.Limit true → IsRun b (run_of w) → w.steps < w.furthest → Went b (run_of w) (run_of v) x x
again-went w v b x one is before =
    let front = one.after.0 in
    let counted = one.after.1 in
    let far : v.furthest ≡ w.furthest = one.after.2 in
    let i : List ℕ = w.input.items in
    let steps : Steps w.debug v.debug (stands w.debug (drop w.used.input i) one.old nothing nothing) (stands v.debug (drop v.used.input i) one.new nothing nothing) By.Limit =
    subst (λ n. Steps w.debug v.debug (stands w.debug (drop w.used.input i) one.old nothing nothing) (stands v.debug (drop n i) one.new nothing nothing) By.Limit) (sym counted.input) one.step in
    let done : Again b i w.debug v.debug w.used v.used w.real w.steps w.furthest w.past.items w.past.capacity w.snapshots =
    again-done b i w.debug v.debug w.used v.used w.real one.old one.new w.steps w.furthest w.past.items w.past.capacity w.snapshots nothing nothing nothing nothing By.Limit refl
    steps is before one.at one.count front counted.asks counted.held in
    let g_is : (run_of v).given ≡ (run_of w).given = real-same i v.input.items w.real v.real one.keeps.input one.real in
    record {
      run = rerack b v.input.items v.debug v.used w.real v.real v.steps v.past.items v.furthest v.snapshots one.real
          (rerun b i v.input.items v.debug v.used v.used w.real (suc w.steps) v.steps (take w.past.capacity (w.used ∷ w.past.items)) v.past.items w.furthest v.furthest w.snapshots v.snapshots
          one.keeps.input refl counted.steps counted.past far one.keeps.snapshots done.is);
      more = record { asks = (more-none (run_of w).given).asks; is = g_is ∙ (more-none (run_of w).given).is };
      steps = counted.steps;
      further = same-most w.furthest v.furthest far;
      few = is.here.asks;
      old = one.step.here;
      new = one.step.there;
      goes = λ rest. subst (λ h. (effects : Effects) × (step (state_at h (place w.debug w.used) rest) ≡ Goes (state_at h (place v.debug v.used) rest) effects)) (sym g_is) (done.goes rest);
      told = λ rest s leads. took-none (v.furthest - w.furthest) s x (no-steps v.furthest w.furthest far);
    }
  where
    same-most : (f g : ℕ) → g ≡ f → f ≤ g
    same-most f g e = omega (arith, e)

-- ---- it ends the program

pub not-gone : (stop : Stop) → goes_on stop ≡ false → (stop ≡ By.TraceFault → ⊥) → is_done stop ≡ false
not-gone (By.Exit code) off never = refl
not-gone (By.Fault fault) off never = refl
not-gone By.Limit off never = cc
not-gone By.ReadFault off never = refl
not-gone By.OutFault off never = refl
not-gone By.TraceFault off never = absurd (never refl)

no-rise : Rose 0 0 → ⊥
no-rise rose = grind arith

pub never-traces : (d e : Trail) (xs ys : List ℕ) (r s : Rack) (stop : Stop) → Steps d e (stands d xs r nothing nothing) (stands e ys s nothing nothing) stop → stop ≡ By.TraceFault → ⊥
never-traces d e xs ys r s (By.Exit code) steps is = cc
never-traces d e xs ys r s (By.Fault fault) steps is = cc
never-traces d e xs ys r s By.Limit steps is = cc
never-traces d e xs ys r s By.ReadFault steps is = cc
never-traces d e xs ys r s By.OutFault steps is = cc
never-traces d e xs ys r s By.TraceFault steps is = no-rise steps.blames.trace

pub never-says : (d e : Trail) (xs ys : List ℕ) (r s : Rack) (stop : Stop) → Steps d e (stands d xs r nothing nothing) (stands e ys s nothing nothing) stop → stop ≡ By.OutFault → ⊥
never-says d e xs ys r s (By.Exit code) steps is = cc
never-says d e xs ys r s (By.Fault fault) steps is = cc
never-says d e xs ys r s By.Limit steps is = cc
never-says d e xs ys r s By.ReadFault steps is = cc
never-says d e xs ys r s By.OutFault steps is = no-rise steps.blames.out
never-says d e xs ys r s By.TraceFault steps is = cc

-- nothing is told
quiet-tells : (stop : Stop) (s : State) (x : Sinks) → (stop ≡ By.OutFault → ⊥) → (stop ≡ By.TraceFault → ⊥) → Tells (End stop) 0 s x x
quiet-tells (By.Exit code) s x out trace = took-none 0 s x refl
quiet-tells (By.Fault fault) s x out trace = took-none 0 s x refl
quiet-tells By.Limit s x out trace = took-none 0 s x refl
quiet-tells By.ReadFault s x out trace = took-none 0 s x refl
quiet-tells By.OutFault s x out trace = absurd (out refl)
quiet-tells By.TraceFault s x out trace = absurd (trace refl)

pub again-ended : {D : Type 0} {G : Ghosts D} (w v : Walker D G) (stop : Stop) (asked : Bool) (b : Begin) (points : Points) (until : Until) (m : ℕ) (x : Sinks) → goes_on stop ≡ false → AgainStep w v stop asked
    → IsRun b (run_of w) → GoesForward b points until (suc m) (End stop) (run_of w) (run_of v) x x
again-ended w v stop asked b points until m x off one is =
    let i : List ℕ = w.input.items in
    let stays : Stays w v = (subst (λ on. AfterAgain on asked one.taken one.new w v) off one.after).0 in
    let traced = never-traces w.debug v.debug _ _ one.old one.new stop one.step in
    let not_done = not-gone stop off traced in
    let stood = again-stood b i w.debug v.debug w.used (drop one.taken i) w.real one.old one.new w.steps w.furthest w.past.items w.snapshots nothing nothing nothing nothing stop not_done one.step is one.at in
    let g_is : (run_of v).given ≡ (run_of w).given = real-same i v.input.items w.real v.real one.keeps.input one.real in
    let ended : Ended b (run_of w) (run_of v) = record {
      run = rerack b v.input.items v.debug v.used w.real v.real v.steps v.past.items v.furthest v.snapshots one.real
          (rerun b i v.input.items v.debug w.used v.used w.real w.steps v.steps w.past.items v.past.items w.furthest v.furthest w.snapshots v.snapshots
          one.keeps.input stays.used stays.steps stays.past stays.furthest one.keeps.snapshots stood.is);
      more = record { asks = (more-none (run_of w).given).asks; is = g_is ∙ (more-none (run_of w).given).is };
      steps = stays.steps;
      furthest = stays.furthest;
      same = same-place w.debug v.debug w.used v.used stood.same stays.used;
    } in
    ended-halts b points until m stop (run_of w) (run_of v) x x ended
    (λ rest. subst (λ q. Comes points until (suc m) (suc m) (End stop) (state_at (run_of v).given (place w.debug w.used) rest) (state_at (run_of v).given q rest)) (sym ended.same)
    (subst (λ h. Comes points until (suc m) (suc m) (End stop) (state_at h (place w.debug w.used) rest) (state_at h (place w.debug w.used) rest)) (sym g_is)
    (stood-comes points until m stood.left stop _ _ (sinks nothing nothing) (sinks nothing nothing) not_done
    (never-reads w.debug v.debug _ _ one.old one.new nothing nothing nothing nothing stop one.step) stood.few (stood.stops rest))))
    (λ rest s leads. quiet-tells stop s x (never-says w.debug v.debug _ _ one.old one.new stop one.step) traced)

-- ---- it goes on otherwise

pub strays-at : {D : Type 0} {G : Ghosts D} (w v : Walker D G) (b : Begin) → AgainStep w v By.Limit false → IsRun b (run_of w) → w.steps < w.furthest → Strays b (run_of w).given (run_of w).furthest
strays-at w v b one is before =
    let i : List ℕ = w.input.items in
    let over = one.step.run.run in
    let entries : List Asked = one.step.devices.entries in
    let noted : one.new.journal ≡ take w.used.asks w.real.journal ++ entries = one.step.devices.noted ∙ ap (λ xs. xs ++ entries) one.at.journal in
    let told = over.told (drop one.taken i) refl in
    let from : List ℕ → List (Option ℕ) → State = λ input answers. flat w.debug.machine.body w.debug.machine.active (around_of one.old input answers) in
    let to : List (Option ℕ) → State = λ more. flat v.debug.machine.body v.debug.machine.active (around_of one.new (drop one.taken i) more) in
    record {
      steps = w.steps;
      place = place w.debug w.used;
      fewer = before;
      is = is.here;
      asks = entries;
      goes = λ more.
          let raw = over.each told.0 (drop one.taken i) more told.2 in
          let goes = done-goes 1 one.step.run.left _ _ (sinks nothing nothing) (sinks nothing nothing) By.Limit refl one.step.run.fewer raw in
          let leads : Leads 0 1 (from told.0 (answers_since one.old one.new ++ more)) (to more) = goes-led _ _ goes.0 goes.1 in (
            to more,
            subst (λ s. Leads 0 1 s (to more))
                (ap (λ input. from input (answers_since one.old one.new ++ more)) told.1
                ∙ around-is w.debug.machine (drop w.used.input i) (map is_some one.old.slots) _ one.old.journal _ (answers_since one.old one.new ++ more) (answers_of entries more)
                one.at.slots one.at.journal (ap (λ xs. xs ++ more) (since-is one.old one.new entries one.step.devices.noted)))
                leads,
            noted,
          );
      unlike = λ front. one.after.0 (subst (λ xs. IsFront xs w.real.journal) (sym noted) front);
    }

pub again-strays : {D : Type 0} {G : Ghosts D} (w v : Walker D G) (b : Begin) → AgainStep w v By.Limit false → IsRun b (run_of w) → w.steps < w.furthest → Strays b (run_of v).given (run_of v).furthest
again-strays w v b one is before =
    subst (λ n. Strays b (run_of v).given n) (sym one.after.1)
    (subst (λ h. Strays b h w.furthest) (sym (real-same w.input.items v.input.items w.real v.real one.keeps.input one.real)) (strays-at w v b one is before))
