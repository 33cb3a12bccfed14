-- A step that is done again leads to another place of the same run, or a device strayed.
use Rattle.std.proofs.Common.{◌≡◌, ℕ, suc, ◌+◌, ◌-◌, ◌<◌, Bool, true, false, List, [], drop, length, refl, sym, ap, ◌∙◌, subst, arith}
use Rattle.dev_rack.specs.Rack.{State as Rack}
use Rattle.dev_rack.specs.declared.devices.Devices.{Ghosts}
use Rattle.mixed_machine.specs.declared.stop.Stop.{Stop}
use Rattle.mixed_machine.specs.declared.stop.Stop.TheVariants as By
use Rattle.mixed_machine.specs.Exec.{Leads}
use Rattle.mixed_machine.proofs.Runs.{exec-continues}
use Rattle.mix_engine.specs.Ends.{goes_on}
use Rattle.gdb_steps.specs.Places.{Begin, Given, IsPlace, IsRun, Place, Run, first_state, state_at}
use Rattle.gdb_steps.specs.Walkers.{run_of, sinks}
use Rattle.gdb_steps.specs.Walks.{Strays}
use Rattle.gdb_steps.specs.WalkersClauses.{Moved}
use Rattle.gdb_steps.specs.declared.snapshot.Snapshot.{Snapshot}
use Rattle.gdb_steps.specs.declared.walker.Walker.{Walker}
use Rattle.gdb_steps.specs.inner.Goings.{given}
use Rattle.gdb_steps.specs.inner.Onces.{AgainStep, nothing}
use Rattle.gdb_steps.proofs.Againing.{again-went, never-says, never-traces, strays-at}
use Rattle.gdb_steps.proofs.Alone.{exited-one, exits-stops, faulted-one, faults-stops}
use Rattle.gdb_steps.proofs.Firsting.{never-reads}
use Rattle.gdb_steps.proofs.Stepwise.{again-limit, strayed-on}
use Rattle.gdb_steps.proofs.Stood.{again-stood}

abbrev run_at : Place → ℕ → List Place → List ℕ → Rack → ℕ → List Snapshot → Run
run_at here steps past i r f ss = record { given = given i r.journal (length r.slots); rack = r; here = here; steps = steps; past = past; furthest = f; kept = ss }

pub moved-again : {D : Type 0} {G : Ghosts D} (w v : Walker D G) → AgainStep w v By.Limit true → w.steps < w.furthest → Moved (run_of w) (run_of v)
moved-again w v one before =
    let here : Place = (run_of v).here in
    let past : List Place = (run_of v).past in
    record {
      run = λ b is. (again-went w v b (sinks nothing nothing) one is before).run;
      same = ap (λ i. run_at here v.steps past i v.real v.furthest v.snapshots) one.keeps.input
          ∙ (ap (λ (r : Rack). run_at here v.steps past w.input.items r v.furthest v.snapshots) one.real
          ∙ (ap (λ f. run_at here v.steps past w.input.items w.real f v.snapshots) one.after.2
          ∙ ap (λ (ss : List Snapshot). run_at here v.steps past w.input.items w.real w.furthest ss) one.keeps.snapshots));
    }

went-as : {D : Type 0} {G : Ghosts D} (w v : Walker D G) (stop : Stop) (asked : Bool) → asked ≡ true → goes_on stop ≡ true → AgainStep w v stop asked → AgainStep w v By.Limit true
went-as w v stop asked is on one = subst (AgainStep w v By.Limit) is (again-limit w v stop asked on one)

pub moved-on : {D : Type 0} {G : Ghosts D} (w v : Walker D G) (stop : Stop) (asked : Bool) → asked ≡ true → goes_on stop ≡ true → AgainStep w v stop asked → w.steps < w.furthest → Moved (run_of w) (run_of v)
moved-on w v stop asked is on one before = moved-again w v (went-as w v stop asked is on one) before

steps-again : {D : Type 0} {G : Ghosts D} (w v : Walker D G) → AgainStep w v By.Limit true → v.steps ≡ suc w.steps
steps-again w v one = one.after.1.steps

pub steps-on : {D : Type 0} {G : Ghosts D} (w v : Walker D G) (stop : Stop) (asked : Bool) → asked ≡ true → goes_on stop ≡ true → AgainStep w v stop asked → v.steps ≡ suc w.steps
steps-on w v stop asked is on one = steps-again w v (went-as w v stop asked is on one)

-- ---- before the furthest place no step ends the program

further : (b : Begin) (g : Given) (m n f : ℕ) (p q : Place) → m + n ≡ f → IsPlace b g m p → IsPlace b g f q → Leads 0 n (state_at g p []) (state_at g q [])
further b g m n f p q is here there =
    sym (exec-continues 0 m n (first_state b g []) (state_at g p []) (here.leads [])) ∙ subst (λ k. Leads 0 k (first_state b g []) (state_at g q [])) (sym is) (there.leads [])

more-steps : (m f : ℕ) → m < f → (n : ℕ) × (m + suc n ≡ f)
more-steps m f h = (f - suc m, omega (arith, h))

ends-none : {D : Type 0} {G : Ghosts D} (w v : Walker D G) (b : Begin) (stop : Stop) (asked : Bool) → goes_on stop ≡ false → AgainStep w v stop asked → IsRun b (run_of w) → w.steps < w.furthest → ⊥
ends-none w v b By.Limit asked off one is before = cc
ends-none w v b By.ReadFault asked off one is before = never-reads w.debug v.debug _ _ one.old one.new nothing nothing nothing nothing By.ReadFault one.step refl
ends-none w v b By.OutFault asked off one is before = never-says w.debug v.debug _ _ one.old one.new By.OutFault one.step refl
ends-none w v b By.TraceFault asked off one is before = never-traces w.debug v.debug _ _ one.old one.new By.TraceFault one.step refl
ends-none w v b (By.Exit code) asked off one is before =
    let i : List ℕ = w.input.items in
    let stood = again-stood b i w.debug v.debug w.used (drop one.taken i) w.real one.old one.new w.steps w.furthest w.past.items w.snapshots nothing nothing nothing nothing (By.Exit code) refl one.step is one.at in
    let more = more-steps w.steps w.furthest before in
    exits-stops _ _ code more.0 (exited-one _ _ stood.left code (stood.stops []).ends).ends (further b (run_of w).given w.steps (suc more.0) w.furthest (run_of w).here is.last more.1 is.here is.reached)
ends-none w v b (By.Fault fault) asked off one is before =
    let i : List ℕ = w.input.items in
    let stood = again-stood b i w.debug v.debug w.used (drop one.taken i) w.real one.old one.new w.steps w.furthest w.past.items w.snapshots nothing nothing nothing nothing (By.Fault fault) refl one.step is one.at in
    let more = more-steps w.steps w.furthest before in
    faults-stops _ _ fault more.0 (faulted-one _ _ stood.left fault (stood.stops []).ends).ends (further b (run_of w).given w.steps (suc more.0) w.furthest (run_of w).here is.last more.1 is.here is.reached)

pub strays-ended : {D : Type 0} {G : Ghosts D} (w v : Walker D G) (b : Begin) (stop : Stop) (asked : Bool) → goes_on stop ≡ false → AgainStep w v stop asked → IsRun b (run_of w) → w.steps < w.furthest
    → Strays b (run_of w).given (run_of w).furthest
strays-ended w v b stop asked off one is before = absurd (ends-none w v b stop asked off one is before)

pub strays-over : {D : Type 0} {G : Ghosts D} (w v : Walker D G) (b : Begin) (stop : Stop) (asked : Bool) → asked ≡ false → AgainStep w v stop asked → IsRun b (run_of w) → w.steps < w.furthest
    → Strays b (run_of w).given (run_of w).furthest
strays-over w v b stop true none one is before = cc
strays-over w v b stop false none one is before = strays-at w v b (again-limit w v stop false (strayed-on (goes_on stop) one.taken one.new w v one.after) one) is before
