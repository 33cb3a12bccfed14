-- A step of a walker, as a step between two places of the run.
use Rattle.std.proofs.Common.{◌≡◌, ℕ, suc, ◌+◌, ◌-◌, ◌<◌, ◌≤◌, true, false, List, ◌++◌, length, drop, Option, refl, sym, ap, ◌∙◌, subst, arith}
use Rattle.mix_io.specs.Streams.{Output}
use Rattle.dev_rack.specs.Rack.{State as Rack}
use Rattle.mixed_machine.specs.declared.stop.Stop.{Stop}
use Rattle.mixed_machine.specs.declared.stop.Stop.TheVariants.{Exit, Fault, Limit, ReadFault, OutFault, TraceFault}
use Rattle.mixed_machine.specs.Exec.{Leads}
use Rattle.mixed_machine.specs.Next.{Effects}
use Rattle.mixed_machine.specs.Next.Next.{Goes}
use Rattle.mixed_machine.specs.Outside.{TookAll}
use Rattle.mixed_machine.specs.Machine.{flat}
use Rattle.toolbox.specs.Calls.{answers_since}
use Rattle.toolbox.specs.inner.Parts.{around_of}
use Rattle.mixed_machine.specs.Runs.{Sinks, Stops}
use Rattle.mixed_machine.specs.State.{State}
use Rattle.mixed_machine.specs.Step.{step}
use Rattle.mixed_machine.proofs.Runs.{exec-continues}
use Rattle.mix_debug.specs.TrailsClauses.{Trail, is_done}
use Rattle.gdb_steps.specs.Places.{Begin, Given, IsPlace, Place, answers_of, first_state, state_at}
use Rattle.gdb_steps.specs.Walkers.{sinks}
use Rattle.gdb_steps.specs.declared.used.Used.{Used}
use Rattle.gdb_steps.specs.inner.Steps.{AreAt, Steps, stands}
use Rattle.gdb_steps.proofs.Alone.{exited-one, faulted-one, goes-led, none-led, tells-goes, went-one}
use Rattle.gdb_steps.proofs.Standing.{answers-between, stands-at}

abbrev pub place : Trail → Used → Place
place d u = record { machine = d.machine; used = u }

-- what a run of one step says of the states at two places
pub between : (g : Given) (d e : Trail) (u v : Used) (r s : Rack) (o w t x : Output) (stop : Stop)
    → (steps : Steps d e (stands d (drop u.input g.input) r o t) (stands e (drop v.input g.input) s w x) stop)
    → u.asks ≤ length g.journal → AreAt g (place d u) r → AreAt g (place e v) s
    → (more : List (Option ℕ)) → Stops 0 1 steps.run.left (state_at g (place d u) more) (state_at g (place e v) more) (sinks o t) (sinks w x) stop
between g d e u v r s o w t x stop steps few here there more =
    let over = steps.run.run in
    let after = over.told (drop v.input g.input) refl in
    let took : TookAll over.taken (drop u.input g.input) (drop v.input g.input) = subst (λ xs. TookAll over.taken xs (drop v.input g.input)) after.1 after.2 in
    let answers : List (Option ℕ) = answers_since r s ++ answers_of (drop v.asks g.journal) more in
    let from : State = flat d.machine.body d.machine.active (around_of r (drop u.input g.input) answers) in
    let to : State = flat e.machine.body e.machine.active (around_of s (drop v.input g.input) (answers_of (drop v.asks g.journal) more)) in
    let raw : Stops 0 1 steps.run.left from to (sinks o t) (sinks w x) stop = over.each (drop u.input g.input) (drop v.input g.input) (answers_of (drop v.asks g.journal) more) took in
    let from_is : from ≡ state_at g (place d u) more = stands-at g (place d u) r answers more here (answers-between g (place d u) (place e v) r s more few here there steps.devices) in
    let to_is : to ≡ state_at g (place e v) more = stands-at g (place e v) s (answers_of (drop v.asks g.journal) more) more there refl in
    subst (λ a. Stops 0 1 steps.run.left a (state_at g (place e v) more) (sinks o t) (sinks w x) stop) from_is
    (subst (λ b. Stops 0 1 steps.run.left from b (sinks o t) (sinks w x) stop) to_is raw)

-- a step that is done goes on
pub done-goes : (n left : ℕ) (s t : State) (old new : Sinks) (stop : Stop) → is_done stop ≡ true → left ≤ 1 → Stops 0 1 left s t old new stop → (effects : Effects) × (step s ≡ Goes t effects)
done-goes n left s t old new (Exit code) done few is = cc
done-goes n left s t old new (Fault fault) done few is = cc
done-goes n left s t old new Limit done few is = let went = went-one s t left is.ends in (went.effects, went.goes)
done-goes n left s t old new ReadFault done few is = cc
done-goes n left s t old new OutFault done few is = cc
done-goes n left s t old new TraceFault done few is =
    let fewer : left < 1 = is.fewer in
    let none : 1 - suc left ≡ 0 = omega (arith, fewer) in
    let same : s ≡ is.last = none-led _ _ (subst (λ k. Leads 0 k s is.last) none is.leads) in
    let own = tells-goes (step is.last) t is.goes is.tells in
    (own.0, ap step same ∙ own.1)

-- one that is not leaves the state
pub not-done-stays : (left : ℕ) (s t : State) (old new : Sinks) (stop : Stop) → is_done stop ≡ false → left ≤ 1 → Stops 0 1 left s t old new stop → t ≡ s
not-done-stays left s t old new (Exit code) done few is = (exited-one s t left code is.ends).same
not-done-stays left s t old new (Fault fault) done few is = (faulted-one s t left fault is.ends).same
not-done-stays left s t old new Limit done few is = cc
not-done-stays left s t old new ReadFault done few is =
    let some : 0 < left = is.some in
    let none : 1 - left ≡ 0 = omega (arith, some, few) in
    sym (none-led _ _ (subst (λ k. Leads 0 k s t) none is.leads))
not-done-stays left s t old new OutFault done few is =
    let some : 0 < left = is.some in
    let none : 1 - left ≡ 0 = omega (arith, some, few) in
    sym (none-led _ _ (subst (λ k. Leads 0 k s t) none is.leads))
not-done-stays left s t old new TraceFault done few is = cc

one-more : (n : ℕ) → n + 1 ≡ suc n
one-more n = omega arith

-- a place one step behind another
pub next-place : (b : Begin) (g : Given) (n : ℕ) (p q : Place) → IsPlace b g n p → q.used.asks ≤ length g.journal
    → ((more : List (Option ℕ)) → (effects : Effects) × (step (state_at g p more) ≡ Goes (state_at g q more) effects)) → IsPlace b g (suc n) q
next-place b g n p q is few goes =
    record {
      asks = few;
      leads = λ more.
          let next = goes more in
          subst (λ k. Leads 0 k (first_state b g more) (state_at g q more)) (one-more n)
          (exec-continues 0 n 1 (first_state b g more) (state_at g p more) (is.leads more) ∙ goes-led (state_at g p more) (state_at g q more) next.0 next.1);
    }
