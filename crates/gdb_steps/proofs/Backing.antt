-- A walk of a walker back.
use Rattle.std.proofs.Common.{◌≡◌, ℕ, suc, ◌-◌, ◌<◌, ◌≤◌, Bool, true, false, All, IfSome, MatchResult, Option, None, Some, Result, Ok, Err, if◌then◌else◌, nat_lt, refl, sym, subst, ◌∙◌, arith}
use Rattle.std.proofs.lemmas.Bool.Decides.{nat_tests}
use Rattle.dev_rack.specs.declared.devices.Devices.{Ghosts}
use Rattle.mix_debug.specs.Machines.{IsSound}
use Rattle.gdb_steps.specs.Backs.{EndsBack, StopsBack}
use Rattle.gdb_steps.specs.Places.{Begin, Given, IsPlace, IsRun, Run}
use Rattle.gdb_steps.specs.Points.{Points, halt_at}
use Rattle.gdb_steps.specs.Walkers.{points_of, run_of}
use Rattle.gdb_steps.specs.WalkersClauses.{Backs, GoesBack, Moved}
use Rattle.gdb_steps.specs.declared.halt.Halt.{Halt}
use Rattle.gdb_steps.specs.declared.halt.Halt.TheVariants.{Beginning, Spent}
use Rattle.gdb_steps.specs.declared.halt.Until.{Until}
use Rattle.gdb_steps.specs.declared.lost.Lost.{Lost}
use Rattle.gdb_steps.specs.declared.walker.Walker.{Walker}
use Rattle.gdb_steps.specs.inner.Backing.{Backed, BackedTo, IsFirst, IsLost, StepsBack, StopsOr}
use Rattle.gdb_steps.specs.inner.Looks.{HasSeen, Plain}
use Rattle.gdb_steps.specs.inner.Looks.Plain.{AtBreak, AtWatch, There}
use Rattle.gdb_steps.specs.inner.Onces.{halt_seen}
use Rattle.gdb_steps.proofs.Backward.{first-join, first-stop, lost-after, moved-back, moved-given, moved-join, moved-none, none-by, passes-none, passes-one, returned, stops-between}
use Rattle.gdb_steps.proofs.Halting.{plain-seen, still-seen}
use Rattle.gdb_steps.proofs.Stepwise.{same-points, tested-at}

-- ---- one step

did : {D : Type 0} {G : Ghosts D} (w v : Walker D G) (done is : Bool) → done ≡ is → StepsBack done w v → StepsBack is w v
did w v done is same step = subst (λ b. StepsBack b w v) same step

-- what stops the walk behind the step, if anything does
tested : {D : Type 0} {G : Ghosts D} (p : Points) (until : Until) (w v : Walker D G) (halt : Option Halt) → points_of w ≡ p → All (HasSeen w.debug.machine.body.ram.bytes) w.watches → StepsBack true w v
    → halt ≡ halt_seen v.breakpoints v.watches until v.debug.machine → halt_at p until w.debug.machine.body.ram.bytes v.debug.machine.body.ram.bytes v.debug.machine.active ≡ halt
tested p until w v halt same seen step test =
    subst (λ q. halt_at q until w.debug.machine.body.ram.bytes v.debug.machine.body.ram.bytes v.debug.machine.active ≡ halt) same (tested-at until w v halt step.keeps seen test).1

pub stops-or : (b : Begin) (p : Points) (until : Until) (g : Given) (n : ℕ) (halt : Option Halt) → IfSome halt Plain → StopsBack b p until g n halt → StopsOr b p until g n halt
stops-or b p until g n None plain is = is
stops-or b p until g n (Some halt) plain is = record { plain = plain; stops = is }

first-or : (b : Begin) (p : Points) (until : Until) (g : Given) (n : ℕ) (halt : Option Halt) → StopsOr b p until g n halt → IsFirst b p until g n (suc n) halt
first-or b p until g n None is = passes-one b p until g n is
first-or b p until g n (Some halt) is = first-stop b p until g n halt is

plain-of : (breaks : _) (ws : _) (until : Until) (m : _) (halt : Option Halt) → halt ≡ halt_seen breaks ws until m → IfSome halt Plain
plain-of breaks ws until m None is = tt
plain-of breaks ws until m (Some halt) is = plain-seen breaks ws until m halt (sym is)

-- places of a run that is given as another
pub given-place : (b : Begin) (r s : Run) → Moved r s → IsRun b s → IsPlace b r.given s.steps s.here
given-place b r s moved is = subst (λ g. IsPlace b g s.steps s.here) (moved-given r s moved) is.here

pub step-backed : {D : Type 0} {G : Ghosts D} (p : Points) (until : Until) (low : ℕ) (w v : Walker D G) (done : Bool) (halt : Option Halt) → done ≡ true → low < w.steps → points_of w ≡ p
    → All (HasSeen w.debug.machine.body.ram.bytes) w.watches → StepsBack done w v → IsSound w.debug.machine → IsSound v.debug.machine → halt ≡ halt_seen v.breakpoints v.watches until v.debug.machine
    → Backed p until low (run_of w) (run_of v) halt
step-backed p until low w v done halt is more same seen step old new test =
    let back = did w v done true is step in
    let moved : Moved (run_of w) (run_of v) = moved-back (run_of w) (run_of v) back.returns in
    let one : w.steps ≡ suc v.steps = (returned (run_of w) (run_of v) (run_of w).past back.returns).0 in
    record {
      moved = moved;
      earlier = earlier w.steps v.steps one;
      least = least low w.steps v.steps more one;
      first = λ b run.
          subst (λ n. IsFirst b p until (run_of w).given v.steps n halt) (sym one)
          (first-or b p until (run_of w).given v.steps halt
          (stops-or b p until (run_of w).given v.steps halt (plain-of v.breakpoints v.watches until v.debug.machine halt test)
          (stops-between b p until (run_of w).given v.steps (run_of v).here (run_of w).here halt (given-place b (run_of w) (run_of v) moved (moved.run b run))
          (subst (λ n. IsPlace b (run_of w).given n (run_of w).here) one run.here) new old (tested p until w v halt same seen back test))));
    }
  where
    earlier : (k l : ℕ) → k ≡ suc l → l ≤ k
    earlier k l e = omega (arith, e)

    least : (low k l : ℕ) → low < k → k ≡ suc l → low ≤ l
    least low k l h e = omega (arith, h, e)

pub back-still : {D : Type 0} {G : Ghosts D} (w v : Walker D G) (done : Bool) → done ≡ false → StepsBack done w v → run_of v ≡ run_of w
back-still w v done is step = (none-by (run_of w) (run_of v) (run_of w).past refl (did w v done false is step).returns).1

pub back-moved : {D : Type 0} {G : Ghosts D} (w v : Walker D G) (done : Bool) → done ≡ true → StepsBack done w v → Moved (run_of w) (run_of v)
back-moved w v done is step = moved-back (run_of w) (run_of v) (did w v done true is step).returns

pub back-steps : {D : Type 0} {G : Ghosts D} (w v : Walker D G) (done : Bool) → done ≡ true → StepsBack done w v → w.steps ≡ suc v.steps
back-steps w v done is step = (returned (run_of w) (run_of v) (run_of w).past (did w v done true is step).returns).0

pub back-sees : {D : Type 0} {G : Ghosts D} (until : Until) (v : Walker D G) → None ≡ halt_seen v.breakpoints v.watches until v.debug.machine → All (HasSeen v.debug.machine.body.ram.bytes) v.watches
back-sees until v test = still-seen v.breakpoints v.watches until v.debug.machine (sym test)

pub back-points : {D : Type 0} {G : Ghosts D} (p : Points) (w v : Walker D G) (done : Bool) → StepsBack done w v → points_of w ≡ p → points_of v ≡ p
back-points p w v done step same = same-points w v step.keeps ∙ same

-- ---- one walk back behind another

pub backed-none : (p : Points) (until : Until) (low : ℕ) (r : Run) → low ≤ r.steps → Backed p until low r r None
backed-none p until low r least =
    record { moved = moved-none r; earlier = at-most r.steps; least = least; first = λ b is. passes-none b p until r.given r.steps }
  where
    at-most : (k : ℕ) → k ≤ k
    at-most k = omega arith

pub backed-join : (p : Points) (until : Until) (low : ℕ) (r s t : Run) (halt : Option Halt) → Backed p until low r s None → Backed p until low s t halt → Backed p until low r t halt
backed-join p until low r s t halt first more =
    record {
      moved = moved-join r s t first.moved more.moved;
      earlier = earlier t.steps s.steps r.steps more.earlier first.earlier;
      least = more.least;
      first = λ b is.
          first-join b p until r.given t.steps s.steps r.steps halt first.earlier
          (subst (λ g. IsFirst b p until g t.steps s.steps halt) (moved-given r s first.moved) (more.first b (first.moved.run b is))) (first.first b is);
    }
  where
    earlier : (a b c : ℕ) → a ≤ b → b ≤ c → a ≤ c
    earlier a b c x y = omega (arith, x, y)

pub backed-to : (p : Points) (until : Until) (low : ℕ) (r s t : Run) (halt : Option Halt) → Backed p until low r s None → BackedTo p until low s t halt → BackedTo p until low r t halt
backed-to p until low r s t halt first more = record { backed = backed-join p until low r s t halt first more.backed; whole = more.whole }

pub far-result : (p q : Points) (until : Until) (low : ℕ) (r s t : Run) (result : Result (Option Halt) Lost) → q ≡ p → Backed p until low r s None → MatchResult result (BackedTo q until low s t) (λ lost. IsLost lost s t)
    → MatchResult result (BackedTo p until low r t) (λ lost. IsLost lost r t)
far-result p q until low r s t (Ok halt) same first is = backed-to p until low r s t halt first (subst (λ x. BackedTo x until low s t halt) same is)
far-result p q until low r s t (Err lost) same first is = lost-after lost r s t first.moved is

pub backed-stop : (p : Points) (until : Until) (low : ℕ) (r s : Run) (halt : Halt) → Backed p until low r s (Some halt) → BackedTo p until low r s (Some halt)
backed-stop p until low r s halt is = record { backed = is; whole = λ e. absurd (some-none e) }
  where
    some-none : {x : Halt} → Some x ≡ None → ⊥
    some-none e = cc

pub backed-whole : (p : Points) (until : Until) (low : ℕ) (r s : Run) → s.steps ≤ low → Backed p until low r s None → BackedTo p until low r s None
backed-whole p until low r s few is = record { backed = is; whole = λ e. (let least = is.least in omega (arith, few, least)) }

-- ---- how it ends

goes-back : (b : Begin) (p : Points) (until : Until) (n low : ℕ) (halt : Halt) (r s : Run) (found : Option Halt) → low ≡ r.steps - n → Backed p until low r s found → IsRun b r
    → EndsBack b p until r.given n halt r.steps s.steps → GoesBack b p until n halt r s
goes-back b p until n low halt r s found is backed run ends =
    record {
      run = backed.moved.run b run;
      earlier = backed.earlier;
      within = (let least = backed.least in omega (arith, is, least));
      ends = ends;
      same = backed.moved.same;
    }

plain-back : (b : Begin) (p : Points) (until : Until) (n : ℕ) (halt : Halt) (r s : Run) → Plain halt → IsFirst b p until r.given s.steps r.steps (Some halt)
    → (EndsBack b p until r.given n halt r.steps s.steps → GoesBack b p until n halt r s) → Backs b p until n halt r s
plain-back b p until n _ r s AtBreak is goes = goes (is.0, is.1.stops, is.2)
plain-back b p until n _ r s (AtWatch a) is goes = goes (is.0, is.1.stops, is.2)
plain-back b p until n _ r s There is goes = goes (is.0, is.1.stops, is.2)

pub back-stops : (b : Begin) (p : Points) (until : Until) (n low : ℕ) (halt : Halt) (r s : Run) → low ≡ r.steps - n → BackedTo p until low r s (Some halt) → IsRun b r → Backs b p until n halt r s
back-stops b p until n low halt r s is to run =
    let first = to.backed.first b run in
    plain-back b p until n halt r s first.1.plain first (goes-back b p until n low halt r s (Some halt) is to.backed run)

end-by : (b : Begin) (p : Points) (until : Until) (n low : ℕ) (less : Bool) (r s : Run) → nat_lt r.steps n ≡ less → low ≡ r.steps - n → s.steps ≡ low → Backed p until low r s None → IsRun b r
    → Backs b p until n (if less then Beginning else Spent) r s
end-by b p until n low true r s test is whole backed run =
    let few : r.steps < n = grind (arith, nat_tests, test) in
    let none : s.steps ≡ 0 = omega (arith, few, is, whole) in
    goes-back b p until n low Beginning r s None is backed run (none, few, subst (λ k. IsFirst b p until r.given k r.steps None) none (backed.first b run))
end-by b p until n low false r s test is whole backed run =
    let many : n ≤ r.steps = grind (arith, nat_tests, test) in
    goes-back b p until n low Spent r s None is backed run (omega (arith, many, is, whole), backed.first b run)

pub back-ends : (b : Begin) (p : Points) (until : Until) (n low : ℕ) (halt : Halt) (r s : Run) → halt ≡ (if nat_lt r.steps n then Beginning else Spent) → low ≡ r.steps - n → BackedTo p until low r s None
    → IsRun b r → Backs b p until n halt r s
back-ends b p until n low halt r s end is to run =
    subst (λ h. Backs b p until n h r s) (sym end) (end-by b p until n low (nat_lt r.steps n) r s refl is (to.whole refl) to.backed run)
