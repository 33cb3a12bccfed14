-- One step of a walker, as a step of its walk.
use Rattle.std.proofs.Common.{◌≡◌, ℕ, suc, ◌+◌, ◌-◌, ◌≤◌, List, length, Option, None, Some, ap, ◌∙◌, subst, arith}
use Rattle.mix_bits.specs.declared.fault.Fault.{Fault as AFault}
use Rattle.mixed_machine.specs.declared.stop.Stop.{Stop}
use Rattle.mixed_machine.specs.declared.stop.Stop.TheVariants as By
use Rattle.mixed_machine.specs.Exec.{Leads}
use Rattle.mixed_machine.specs.Machine.{callers_of, flat, memory_of}
use Rattle.mixed_machine.specs.Next.{Effects}
use Rattle.mixed_machine.specs.Next.Next.{Goes, Exits, Faults}
use Rattle.mixed_machine.specs.Runs.{Sinks, SinksTook}
use Rattle.mixed_machine.specs.State.{State, seen}
use Rattle.mixed_machine.specs.Step.{step}
use Rattle.mix_engine.specs.declared.machine.Machine.{Machine}
use Rattle.mix_debug.specs.Machines.{IsSound}
use Rattle.switch_frame.proofs.Seen.{seen_is_memory}
use Rattle.toolbox.specs.Effects.{Around}
use Rattle.gdb_steps.specs.Places.{Begin, IsRun, Run, first_state, state_at}
use Rattle.gdb_steps.specs.Points.{Points, halt_at}
use Rattle.gdb_steps.specs.Walks.{Comes, Forward, GoesForward, Tells, halts, halts_or, walk, walk_by}
use Rattle.gdb_steps.specs.declared.halt.Halt.{Halt}
use Rattle.gdb_steps.specs.declared.halt.Halt.TheVariants.{End}
use Rattle.gdb_steps.specs.declared.halt.Until.{Until}
use Rattle.gdb_steps.specs.inner.Goings.{Going, More}
use Rattle.gdb_steps.specs.inner.Looks.{Plain}
use Rattle.gdb_steps.specs.inner.Looks.Plain.{AtBreak, AtWatch, There}

-- bytes of memory, as the state tells them
pub seen-bytes : (m : Machine) (around : Around) → IsSound m → (seen (flat m.body m.active around)).bytes ≡ m.body.ram.bytes
unfolding memory_of
seen-bytes m around sound = ap (λ ram. ram.bytes) (seen_is_memory m.body.ram m.body.top (callers_of m.body) sound.chain)

-- ---- a step that goes on

pub record Went (b : Begin) (r s : Run) (x y : Sinks) : Type 0 where
  pub run : IsRun b s
  pub more : More r.given s.given
  pub steps : s.steps ≡ suc r.steps
  pub further : r.furthest ≤ s.furthest
  pub few : r.here.used.asks ≤ length r.given.journal
  pub old : IsSound r.here.machine
  pub new : IsSound s.here.machine
  pub goes : (rest : List (Option ℕ)) → (effects : Effects) × (step (state_at s.given r.here rest) ≡ Goes (state_at s.given s.here rest) effects)
  pub told : (rest : List (Option ℕ)) (t : State) → Leads 0 r.furthest (first_state b s.given rest) t → SinksTook (s.furthest - r.furthest) t x y

walk-goes : (p : Points) (until : Until) (m : ℕ) (s t : State) (effects : Effects) → step s ≡ Goes t effects
    → walk p until (suc m) s ≡ halts_or (halt_at p until (seen s).bytes (seen t).bytes t.active) m t (walk p until m)
unfolding walk
walk-goes p until m s t effects goes = ap (λ x. walk_by p until s x m (walk p until m)) goes

walk-halts : (b : Begin) (p : Points) (until : Until) (m : ℕ) (r s : Run) (x y : Sinks) (halt : Option Halt) → Went b r s x y
    → halt_at p until r.here.machine.body.ram.bytes s.here.machine.body.ram.bytes s.here.machine.active ≡ halt
    → (rest : List (Option ℕ)) → walk p until (suc m) (state_at s.given r.here rest) ≡ halts_or halt m (state_at s.given s.here rest) (walk p until m)
walk-halts b p until m r s x y halt went is rest =
    let goes = went.goes rest in
    walk-goes p until m _ _ goes.0 goes.1
    ∙ ap (λ (h : Option Halt). halts_or h m (state_at s.given s.here rest) (walk p until m))
    (ap (λ bytes. halt_at p until bytes (seen (state_at s.given s.here rest)).bytes s.here.machine.active) (seen-bytes r.here.machine (state_at s.given r.here rest).around went.old)
    ∙ (ap (λ bytes. halt_at p until r.here.machine.body.ram.bytes bytes s.here.machine.active) (seen-bytes s.here.machine (state_at s.given s.here rest).around went.new) ∙ is))

pub went-on : (b : Begin) (p : Points) (until : Until) (m : ℕ) (r s : Run) (x y : Sinks) → Went b r s x y
    → halt_at p until r.here.machine.body.ram.bytes s.here.machine.body.ram.bytes s.here.machine.active ≡ None → Going b p until (suc m) m r s x y
went-on b p until m r s x y went none =
    record {
      run = went.run;
      more = went.more;
      few = went.few;
      count = up s.steps r.steps m went.steps;
      less = later m;
      further = went.further;
      walks = walk-halts b p until m r s x y None went none;
      told = went.told;
    }
  where
    up : (s r m : ℕ) → s ≡ suc r → s + m ≡ r + suc m
    up s r m e = omega (arith, e)

    later : (n : ℕ) → n ≤ suc n
    later n = omega arith

plain-comes : (p : Points) (until : Until) (n left : ℕ) (halt : Halt) (s t : State) → Plain halt → walk p until n s ≡ halts left t halt → Comes p until n left halt s t
plain-comes p until n left _ s t AtBreak is = is
plain-comes p until n left _ s t (AtWatch a) is = is
plain-comes p until n left _ s t There is = is

plain-tells : (halt : Halt) (j : ℕ) (s : State) (x y : Sinks) → Plain halt → SinksTook j s x y → Tells halt j s x y
plain-tells _ j s x y AtBreak took = took
plain-tells _ j s x y (AtWatch a) took = took
plain-tells _ j s x y There took = took

plain-forward : (b : Begin) (p : Points) (until : Until) (n : ℕ) (halt : Halt) (r s : Run) (x y : Sinks) → Plain halt → GoesForward b p until n halt r s x y → Forward b p until n halt r s x y
plain-forward b p until n _ r s x y AtBreak is = is
plain-forward b p until n _ r s x y (AtWatch a) is = is
plain-forward b p until n _ r s x y There is = is

pub went-halts : (b : Begin) (p : Points) (until : Until) (m : ℕ) (halt : Halt) (r s : Run) (x y : Sinks) → Plain halt → Went b r s x y
    → halt_at p until r.here.machine.body.ram.bytes s.here.machine.body.ram.bytes s.here.machine.active ≡ Some halt → Forward b p until (suc m) halt r s x y
went-halts b p until m halt r s x y plain went some =
    plain-forward b p until (suc m) halt r s x y plain (record {
      run = went.run;
      later = up r.steps s.steps went.steps;
      within = within r.steps s.steps m went.steps;
      further = went.further;
      more = (went.more.asks, went.more.is);
      comes = λ rest.
          subst (λ left. Comes p until (suc m) left halt (state_at s.given r.here rest) (state_at s.given s.here rest)) (left-is r.steps s.steps m went.steps)
          (plain-comes p until (suc m) m halt _ _ plain (walk-halts b p until m r s x y (Some halt) went some rest));
      told = λ rest t leads. plain-tells halt (s.furthest - r.furthest) t x y plain (went.told rest t leads);
    })
  where
    up : (r s : ℕ) → s ≡ suc r → r ≤ s
    up r s e = omega (arith, e)

    within : (r s m : ℕ) → s ≡ suc r → s ≤ r + suc m
    within r s m e = omega (arith, e)

    left-is : (r s m : ℕ) → s ≡ suc r → m ≡ r + suc m - s
    left-is r s m e = omega (arith, e)

-- ---- a step that ends the program

pub record Ended (b : Begin) (r s : Run) : Type 0 where
  pub run : IsRun b s
  pub more : More r.given s.given
  pub steps : s.steps ≡ r.steps
  pub furthest : s.furthest ≡ r.furthest
  pub same : s.here ≡ r.here

pub walk-exits : (p : Points) (until : Until) (m : ℕ) (s : State) (code : ℕ) → step s ≡ Exits code → walk p until (suc m) s ≡ halts (suc m) s (End (By.Exit code))
unfolding walk
walk-exits p until m s code exits = ap (λ x. walk_by p until s x m (walk p until m)) exits

pub walk-faults : (p : Points) (until : Until) (m : ℕ) (s : State) (fault : AFault) → step s ≡ Faults fault → walk p until (suc m) s ≡ halts (suc m) s (End (By.Fault fault))
unfolding walk
walk-faults p until m s fault faults = ap (λ x. walk_by p until s x m (walk p until m)) faults

pub ended-halts : (b : Begin) (p : Points) (until : Until) (m : ℕ) (stop : Stop) (r s : Run) (x y : Sinks) → Ended b r s
    → ((rest : List (Option ℕ)) → Comes p until (suc m) (suc m) (End stop) (state_at s.given r.here rest) (state_at s.given s.here rest))
    → ((rest : List (Option ℕ)) (t : State) → Leads 0 r.furthest (first_state b s.given rest) t → Tells (End stop) 0 t x y) → GoesForward b p until (suc m) (End stop) r s x y
ended-halts b p until m stop r s x y ended comes told =
    record {
      run = ended.run;
      later = same-most r.steps s.steps ended.steps;
      within = same-within r.steps s.steps (suc m) ended.steps;
      further = same-most r.furthest s.furthest ended.furthest;
      more = (ended.more.asks, ended.more.is);
      comes = λ rest.
          subst (λ left. Comes p until (suc m) left (End stop) (state_at s.given r.here rest) (state_at s.given s.here rest)) (left-is r.steps s.steps (suc m) ended.steps) (comes rest);
      told = λ rest t leads. subst (λ j. Tells (End stop) j t x y) (none r.furthest s.furthest ended.furthest) (told rest t leads);
    }
  where
    same-most : (r s : ℕ) → s ≡ r → r ≤ s
    same-most r s e = omega (arith, e)

    same-within : (r s n : ℕ) → s ≡ r → s ≤ r + n
    same-within r s n e = omega (arith, e)

    left-is : (r s n : ℕ) → s ≡ r → n ≡ r + n - s
    left-is r s n e = omega (arith, e)

    none : (r s : ℕ) → s ≡ r → 0 ≡ s - r
    none r s e = omega (arith, e)
