-- One step of a walker, and what stops its walk there.
use Rattle.std.proofs.Common.{◌≡◌, ℕ, suc, ◌+◌, ◌-◌, ◌<◌, Bool, true, false, List, map, Option, None, Some, All, IfNone, refl, sym, ap, ◌∙◌, subst, arith}
use Rattle.mix_io.specs.Streams.{Output}
use Rattle.dev_rack.specs.Rack.{State as Rack}
use Rattle.mixed_machine.specs.declared.stop.Stop.{Stop}
use Rattle.mixed_machine.specs.declared.stop.Stop.TheVariants as By
use Rattle.mixed_machine.specs.Runs.{Sinks}
use Rattle.mix_engine.specs.Ends.{goes_on}
use Rattle.dev_rack.specs.declared.devices.Devices.{Ghosts}
use Rattle.gdb_steps.specs.Places.{Begin, IsRun, Run}
use Rattle.gdb_steps.specs.Points.{Points, Range, halt_at, range_of}
use Rattle.gdb_steps.specs.Walkers.{points_of, run_of, sinks}
use Rattle.gdb_steps.specs.Walks.{Forward, GoesForward}
use Rattle.gdb_steps.specs.WalkersClauses.{Moved}
use Rattle.gdb_steps.specs.declared.halt.Halt.{Halt}
use Rattle.gdb_steps.specs.declared.halt.Halt.TheVariants.{End, Strayed}
use Rattle.gdb_steps.specs.declared.halt.Until.{Until}
use Rattle.gdb_steps.specs.declared.snapshot.Snapshot.{Snapshot}
use Rattle.gdb_steps.specs.declared.walker.Walker.{Walker}
use Rattle.gdb_steps.specs.declared.watch.Watch.{Watch}
use Rattle.gdb_steps.specs.inner.Goings.{Going, OneMore}
use Rattle.gdb_steps.specs.inner.Looks.{HasSeen}
use Rattle.gdb_steps.specs.inner.Onces.{AfterAgain, AgainStep, FirstStep, Keeps, halt_seen}
use Rattle.gdb_steps.proofs.Againing.{again-ended, again-strays, again-went}
use Rattle.gdb_steps.proofs.Backward.{moved-none}
use Rattle.gdb_steps.proofs.Goings.{going-none}
use Rattle.gdb_steps.proofs.Firsting.{first-ended, first-traced, first-went}
use Rattle.gdb_steps.proofs.Halting.{plain-seen, seen-halt, still-seen}
use Rattle.gdb_steps.proofs.Onward.{Went, went-halts, went-on}

one-more : (m : ℕ) → suc m ≡ m + 1
one-more m = omega arith

limit-on : (stop : Stop) → goes_on stop ≡ true → stop ≡ By.Limit
limit-on (By.Exit code) on = cc
limit-on (By.Fault fault) on = cc
limit-on By.Limit on = refl
limit-on By.ReadFault on = cc
limit-on By.OutFault on = cc
limit-on By.TraceFault on = cc

-- by what is tested behind a step that goes on
went-by : (b : Begin) (p : Points) (until : Until) (r s : Run) (x y : Sinks) (breaks : List ℕ) (ws : List Watch) (halt : Option Halt) → Went b r s x y
    → halt_seen breaks ws until s.here.machine ≡ halt → halt_at p until r.here.machine.body.ram.bytes s.here.machine.body.ram.bytes s.here.machine.active ≡ halt → OneMore b p until r s x y halt
went-by b p until r s x y breaks ws None went test is = λ m. subst (λ n. Going b p until n m r s x y) (one-more m) (went-on b p until m r s x y went is)
went-by b p until r s x y breaks ws (Some halt) went test is =
    λ m. subst (λ n. Forward b p until n halt r s x y) (one-more m) (went-halts b p until m halt r s x y (plain-seen breaks ws until s.here.machine halt test) went is)

-- the test behind a step, by the bytes that were seen before it
pub tested-at : {D : Type 0} {G : Ghosts D} (until : Until) (w v : Walker D G) (halt : Option Halt) → Keeps w v → All (HasSeen w.debug.machine.body.ram.bytes) w.watches
    → halt ≡ halt_seen v.breakpoints v.watches until v.debug.machine
    → (halt_seen w.breakpoints w.watches until v.debug.machine ≡ halt)
    × (halt_at (points_of w) until w.debug.machine.body.ram.bytes v.debug.machine.body.ram.bytes v.debug.machine.active ≡ halt)
tested-at until w v halt keeps seen test =
    let same : halt_seen v.breakpoints v.watches until v.debug.machine ≡ halt_seen w.breakpoints w.watches until v.debug.machine =
    ap (λ bs. halt_seen bs v.watches until v.debug.machine) keeps.breakpoints ∙ ap (λ (ws : List Watch). halt_seen w.breakpoints ws until v.debug.machine) keeps.watches in
    let is : halt_seen w.breakpoints w.watches until v.debug.machine ≡ halt = sym same ∙ sym test in
    (is, sym (seen-halt w.breakpoints w.watches until w.debug.machine.body.ram.bytes v.debug.machine seen) ∙ is)

went-tested : {D : Type 0} {G : Ghosts D} (b : Begin) (until : Until) (w v : Walker D G) (x y : Sinks) (halt : Option Halt) → Keeps w v → All (HasSeen w.debug.machine.body.ram.bytes) w.watches → Went b (run_of w) (run_of v) x y
    → halt ≡ halt_seen v.breakpoints v.watches until v.debug.machine → OneMore b (points_of w) until (run_of w) (run_of v) x y halt
went-tested b until w v x y halt keeps seen went test =
    let own = tested-at until w v halt keeps seen test in
    went-by b (points_of w) until (run_of w) (run_of v) x y w.breakpoints w.watches halt went own.0 own.1

-- ---- for the first time

first-limit : {D : Type 0} {G : Ghosts D} (w v : Walker D G) (o p t u : Output) (stop : Stop) → goes_on stop ≡ true → FirstStep w v o p t u stop → FirstStep w v o p t u By.Limit
first-limit w v o p t u stop on first = subst (FirstStep w v o p t u) (limit-on stop on) first

pub first-goes : {D : Type 0} {G : Ghosts D} (b : Begin) (until : Until) (w v : Walker D G) (o p t u : Output) (stop : Stop) (halt : Option Halt) → goes_on stop ≡ true → FirstStep w v o p t u stop
    → w.steps ≡ w.furthest → All (HasSeen w.debug.machine.body.ram.bytes) w.watches → halt ≡ halt_seen v.breakpoints v.watches until v.debug.machine
    → IsRun b (run_of w) → OneMore b (points_of w) until (run_of w) (run_of v) (sinks o t) (sinks p u) halt
first-goes b until w v o p t u stop halt on first same seen test is =
    let limit = first-limit w v o p t u stop on first in
    went-tested b until w v (sinks o t) (sinks p u) halt limit.keeps seen (first-went w v o p t u b limit is same) test

first-stops : {D : Type 0} {G : Ghosts D} (b : Begin) (points : Points) (until : Until) (w v : Walker D G) (o p t u : Output) (stop : Stop) (m : ℕ) → goes_on stop ≡ false → FirstStep w v o p t u stop
    → w.steps ≡ w.furthest → IsRun b (run_of w) → GoesForward b points until (suc m) (End stop) (run_of w) (run_of v) (sinks o t) (sinks p u)
first-stops b points until w v o p t u (By.Exit code) m off first same is = first-ended w v o p t u (By.Exit code) b points until m refl first is same
first-stops b points until w v o p t u (By.Fault fault) m off first same is = first-ended w v o p t u (By.Fault fault) b points until m refl first is same
first-stops b points until w v o p t u By.Limit m off first same is = cc
first-stops b points until w v o p t u By.ReadFault m off first same is = first-ended w v o p t u By.ReadFault b points until m refl first is same
first-stops b points until w v o p t u By.OutFault m off first same is = first-ended w v o p t u By.OutFault b points until m refl first is same
first-stops b points until w v o p t u By.TraceFault m off first same is = first-traced w v o p t u b points until m first is same

pub first-ends : {D : Type 0} {G : Ghosts D} (b : Begin) (until : Until) (w v : Walker D G) (o p t u : Output) (stop : Stop) → goes_on stop ≡ false → FirstStep w v o p t u stop
    → w.steps ≡ w.furthest → IsRun b (run_of w) → OneMore b (points_of w) until (run_of w) (run_of v) (sinks o t) (sinks p u) (Some (End stop))
first-ends b until w v o p t u stop off first same is =
    λ m. subst (λ n. Forward b (points_of w) until n (End stop) (run_of w) (run_of v) (sinks o t) (sinks p u)) (one-more m) (first-stops b (points_of w) until w v o p t u stop m off first same is)

-- ---- again

pub again-limit : {D : Type 0} {G : Ghosts D} (w v : Walker D G) (stop : Stop) (asked : Bool) → goes_on stop ≡ true → AgainStep w v stop asked → AgainStep w v By.Limit asked
again-limit w v stop asked on one = subst (λ x. AgainStep w v x asked) (limit-on stop on) one

pub again-goes : {D : Type 0} {G : Ghosts D} (b : Begin) (until : Until) (w v : Walker D G) (x : Sinks) (stop : Stop) (asked : Bool) (halt : Option Halt) → asked ≡ true → goes_on stop ≡ true → AgainStep w v stop asked
    → w.steps < w.furthest → All (HasSeen w.debug.machine.body.ram.bytes) w.watches → halt ≡ halt_seen v.breakpoints v.watches until v.debug.machine
    → IsRun b (run_of w) → OneMore b (points_of w) until (run_of w) (run_of v) x x halt
again-goes b until w v x stop true halt is_asked on one before seen test is =
    let limit = again-limit w v stop true on one in
    went-tested b until w v x x halt limit.keeps seen (again-went w v b x limit is before) test
again-goes b until w v x stop false halt is_asked on one before seen test is = cc

pub again-ends : {D : Type 0} {G : Ghosts D} (b : Begin) (until : Until) (w v : Walker D G) (x : Sinks) (stop : Stop) (asked : Bool) → goes_on stop ≡ false → AgainStep w v stop asked
    → IsRun b (run_of w) → OneMore b (points_of w) until (run_of w) (run_of v) x x (Some (End stop))
again-ends b until w v x stop asked off one is =
    λ m. subst (λ n. Forward b (points_of w) until n (End stop) (run_of w) (run_of v) x x) (one-more m) (again-ended w v stop asked b (points_of w) until m x off one is)

pub strayed-on : {D : Type 0} {G : Ghosts D} (on : Bool) (taken : ℕ) (rack : Rack) (w v : Walker D G) → AfterAgain on false taken rack w v → on ≡ true
strayed-on true taken rack w v after = refl
strayed-on false taken rack w v after = absurd (false-true after.1)
  where
    false-true : false ≡ true → ⊥
    false-true e = cc

pub again-otherwise : {D : Type 0} {G : Ghosts D} (b : Begin) (until : Until) (w v : Walker D G) (x : Sinks) (stop : Stop) (asked : Bool) → asked ≡ false → AgainStep w v stop asked
    → w.steps < w.furthest → IsRun b (run_of w) → OneMore b (points_of w) until (run_of w) (run_of v) x x (Some Strayed)
again-otherwise b until w v x stop true none one before is = cc
again-otherwise b until w v x stop false none one before is =
    λ m. again-strays w v b (again-limit w v stop false (strayed-on (goes_on stop) one.taken one.new w v one.after) one) is before

-- ---- what was seen, and where the walk is to stop

pub seen-on : {D : Type 0} {G : Ghosts D} (until : Until) (v : Walker D G) (halt : Option Halt) → halt ≡ halt_seen v.breakpoints v.watches until v.debug.machine → IfNone halt (All (HasSeen v.debug.machine.body.ram.bytes) v.watches)
seen-on until v None test = still-seen v.breakpoints v.watches until v.debug.machine (sym test)
seen-on until v (Some halt) test = tt

pub same-points : {D : Type 0} {G : Ghosts D} (w v : Walker D G) → Keeps w v → points_of v ≡ points_of w
same-points w v keeps = ap (λ (bs : List ℕ). record { breaks = bs; watches = map range_of v.watches }) keeps.breakpoints ∙ ap (λ (ws : List Watch). record { breaks = w.breakpoints; watches = map range_of ws }) keeps.watches

-- ---- before the first step of a walk the watched bytes are seen

pub looked-run : {D : Type 0} {G : Ghosts D} (w v : Walker D G) → v ≡ record w { watches = v.watches } → run_of v ≡ run_of w
looked-run w v same = ap run_of same

pub looked-points : {D : Type 0} {G : Ghosts D} (w v : Walker D G) → v ≡ record w { watches = v.watches } → map range_of v.watches ≡ map range_of w.watches → points_of v ≡ points_of w
looked-points {D} {G} w v same ranges =
    ap (λ (bs : List ℕ). record { breaks = bs; watches = map range_of v.watches }) (ap (λ (x : Walker D G). x.breakpoints) same) ∙ ap (λ (rs : List Range). record { breaks = w.breakpoints; watches = rs }) ranges

pub looked-going : {D : Type 0} {G : Ghosts D} (b : Begin) (p : Points) (until : Until) (last : ℕ) (w v : Walker D G) (x : Sinks) → v ≡ record w { watches = v.watches } → IsRun b (run_of w)
    → Going b p until (last - w.steps) (last - v.steps) (run_of w) (run_of v) x x
looked-going b p until last w v x same is =
    subst (λ (r : Run). Going b p until (last - w.steps) (last - r.steps) (run_of w) r x x) (sym (looked-run w v same)) (going-none b p until (last - w.steps) (run_of w) x is)

pub looked-moved : {D : Type 0} {G : Ghosts D} (w v : Walker D G) → v ≡ record w { watches = v.watches } → Moved (run_of w) (run_of v)
looked-moved w v same = subst (Moved (run_of w)) (sym (looked-run w v same)) (moved-none (run_of w))

pub looked-steps : {D : Type 0} {G : Ghosts D} (w v : Walker D G) → v ≡ record w { watches = v.watches } → v.steps ≡ w.steps
looked-steps {D} {G} w v same = ap (λ (x : Walker D G). x.steps) same

pub looked-real : {D : Type 0} {G : Ghosts D} (w v : Walker D G) → v ≡ record w { watches = v.watches } → v.real ≡ w.real
looked-real {D} {G} w v same = ap (λ (x : Walker D G). x.real) same

-- ---- where the machine was kept

going-kept : (b : Begin) (p : Points) (until : Until) (n left : ℕ) (r s : Run) (kept : List Snapshot) (x y : Sinks) → Going b p until n left r s x y → IsRun b (record s { kept = kept })
    → Going b p until n left r (record s { kept = kept }) x y
going-kept b p until n left r s kept x y going is =
    record { run = is; more = going.more; few = going.few; count = going.count; less = going.less; further = going.further; walks = going.walks; told = going.told }

pub kept-going : {D : Type 0} {G : Ghosts D} (b : Begin) (p : Points) (until : Until) (n last : ℕ) (r : Run) (w v : Walker D G) (x y : Sinks) → run_of v ≡ record (run_of w) { kept = v.snapshots }
    → (IsRun b (run_of w) → IsRun b (run_of v)) → Going b p until n (last - w.steps) r (run_of w) x y → Going b p until n (last - v.steps) r (run_of v) x y
kept-going b p until n last r w v x y same kept going =
    subst (λ (s : Run). Going b p until n (last - s.steps) r s x y) (sym same)
    (going-kept b p until n (last - w.steps) r (run_of w) v.snapshots x y going (subst (IsRun b) same (kept going.run)))

pub kept-points : {D : Type 0} {G : Ghosts D} (w v : Walker D G) → v.breakpoints ≡ w.breakpoints → v.watches ≡ w.watches → points_of v ≡ points_of w
kept-points w v breaks watches = ap (λ (bs : List ℕ). record { breaks = bs; watches = map range_of v.watches }) breaks ∙ ap (λ (ws : List Watch). record { breaks = w.breakpoints; watches = map range_of ws }) watches

pub kept-steps : {D : Type 0} {G : Ghosts D} (w v : Walker D G) → run_of v ≡ record (run_of w) { kept = v.snapshots } → v.steps ≡ w.steps
kept-steps w v same = ap (λ (r : Run). r.steps) same

pub kept-real : {D : Type 0} {G : Ghosts D} (w v : Walker D G) → run_of v ≡ record (run_of w) { kept = v.snapshots } → v.real ≡ w.real
kept-real w v same = ap (λ (r : Run). r.rack) same
