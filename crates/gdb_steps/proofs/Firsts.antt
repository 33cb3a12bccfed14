-- A step of a walker that is done, for the first time or again.
use Rattle.std.proofs.Common.{◌≡◌, ℕ, suc, ◌<◌, ◌≤◌, All, Bool, true, false, List, ◌∷◌, ◌++◌, length, map, take, drop, is_some, Option, refl, sym, ap, ◌∙◌, subst, arith}
use Rattle.std.proofs.Math.Seq.{take-append_seam, take-length}
use Rattle.std.proofs.lemmas.List.Elements.{All-weaker}
use Rattle.mix_engine.specs.declared.machine.Machine.{Machine}
use Rattle.mix_io.specs.Streams.{Output}
use Rattle.dev_rack.specs.Rack.{State as Rack}
use Rattle.dev_rack.specs.declared.answers.Asked.{Asked}
use Rattle.mixed_machine.specs.declared.stop.Stop.{Stop}
use Rattle.mixed_machine.specs.Next.{Effects}
use Rattle.mixed_machine.specs.Next.Next.{Goes}
use Rattle.mixed_machine.specs.Runs.{Stops}
use Rattle.mixed_machine.specs.Step.{step}
use Rattle.mix_debug.specs.CostsClauses.{cost_between}
use Rattle.mix_debug.specs.Trails.{history_room}
use Rattle.mix_debug.specs.TrailsClauses.{Keeps, Trail, is_done}
use Rattle.gdb_steps.specs.Places.{ArePlaces, Begin, Given, IsFront, IsKept, IsPlace, IsRun, Place, Run, state_at}
use Rattle.gdb_steps.specs.Walkers.{places, sinks}
use Rattle.gdb_steps.specs.declared.snapshot.Snapshot.{Snapshot}
use Rattle.gdb_steps.specs.declared.used.Used.{Used}
use Rattle.gdb_steps.specs.inner.Steps.{AreAt, Steps, stands}
use Rattle.gdb_steps.proofs.Doing.{between, done-goes, next-place, place}
use Rattle.gdb_steps.proofs.Fronts.{fewer-places, front-short}
use Rattle.gdb_steps.proofs.Growing.{place-more, places-more}
use Rattle.gdb_steps.specs.inner.Goings.{More, given}
use Rattle.gdb_steps.proofs.Standing.{at-furthest}

-- a run at which a walker stands
abbrev pub run : List ℕ → Trail → Used → Rack → ℕ → List Used → ℕ → List Snapshot → Run
run i d u r k us f ss =
    record { given = given i r.journal (length r.slots); rack = r; here = place d u; steps = k; past = places d.kept us; furthest = f; kept = ss }

abbrev pub place-at : Machine → Used → Place
place-at m u = record { machine = m; used = u }

-- what the outside gave, after it gave more
pub regiven : (i : List ℕ) (r s : Rack) (e : List Asked) → s.journal ≡ r.journal ++ e → length s.slots ≡ length r.slots → given i (r.journal ++ e) (length r.slots) ≡ given i s.journal (length s.slots)
regiven i r s e noted slots = ap (λ j. given i j (length r.slots)) (sym noted) ∙ ap (given i s.journal) (sym slots)

pub place-after : (b : Begin) (i : List ℕ) (r s : Rack) (e : List Asked) (n : ℕ) (p : Place) → s.journal ≡ r.journal ++ e → length s.slots ≡ length r.slots
    → IsPlace b (given i r.journal (length r.slots)) n p → IsPlace b (given i s.journal (length s.slots)) n p
place-after b i r s e n p noted slots is = subst (λ g. IsPlace b g n p) (regiven i r s e noted slots) (place-more b i r.journal e (length r.slots) n p is)

pub places-after : (b : Begin) (i : List ℕ) (r s : Rack) (e : List Asked) (n : ℕ) (ps : List Place) → s.journal ≡ r.journal ++ e → length s.slots ≡ length r.slots
    → ArePlaces b (given i r.journal (length r.slots)) n ps → ArePlaces b (given i s.journal (length s.slots)) n ps
places-after b i r s e n ps noted slots are = subst (λ g. ArePlaces b g n ps) (regiven i r s e noted slots) (places-more b i r.journal e (length r.slots) n ps are)

-- the machines that are kept, after the outside gave more
pub kept-after : (b : Begin) (i : List ℕ) (r s : Rack) (e : List Asked) (ss : List Snapshot) → s.journal ≡ r.journal ++ e → length s.slots ≡ length r.slots
    → All (IsKept b (given i r.journal (length r.slots))) ss → All (IsKept b (given i s.journal (length s.slots))) ss
kept-after b i r s e ss noted slots all =
    All-weaker (IsKept b (given i r.journal (length r.slots))) (IsKept b (given i s.journal (length s.slots)))
    (λ k is. (is.0, is.1, is.2, place-after b i r s e k.steps (place-at is.0 k.used) noted slots is.3)) ss all

-- the places that are kept behind a step
past-after : (b : Begin) (g : Given) (d e : Trail) (u : Used) (us : List Used) (k cap : ℕ) (done : Bool) → done ≡ true → Keeps done d e → IsPlace b g k (place d u) → ArePlaces b g k (places d.kept us)
    → ArePlaces b g (suc k) (places e.kept (take cap (u ∷ us)))
unfolding places
past-after b g d e u us k cap true is keeps here past =
    subst (λ ks. ArePlaces b g (suc k) (places ks (take cap (u ∷ us)))) (sym keeps)
    (fewer-places b g (suc k) history_room cap (record { machine = d.machine; cost = cost_between d.machine e.machine } ∷ d.kept) (u ∷ us) (k, refl, here, past))
past-after b g d e u us k cap false is keeps here past = cc

-- at the furthest place: devices are asked
pub record First (b : Begin) (i : List ℕ) (d e : Trail) (u v : Used) (r s : Rack) (k : ℕ) (us : List Used) (cap : ℕ) (ss : List Snapshot) (o w t x : Output) (stop : Stop) : Type 0 where
  pub is : IsRun b (run i e v s (suc k) (take cap (u ∷ us)) (suc k) ss)
  pub here : IsPlace b (given i s.journal (length s.slots)) k (place d u)
  pub more : More (given i r.journal (length r.slots)) (given i s.journal (length s.slots))
  pub left : ℕ
  pub few : left ≤ 1
  pub stops : (more : List (Option ℕ)) → Stops 0 1 left (state_at (given i s.journal (length s.slots)) (place d u) more) (state_at (given i s.journal (length s.slots)) (place e v) more) (sinks o t) (sinks w x) stop

pub first-done : (b : Begin) (i : List ℕ) (d e : Trail) (u v : Used) (r s : Rack) (k f : ℕ) (us : List Used) (cap : ℕ) (ss : List Snapshot) (o w t x : Output) (stop : Stop) → is_done stop ≡ true
    → Steps d e (stands d (drop u.input i) r o t) (stands e (drop v.input i) s w x) stop → IsRun b (run i d u r k us f ss) → k ≡ f
    → v.asks ≡ length s.journal → take (length s.slots) v.held ≡ map is_some s.slots → First b i d e u v r s k us cap ss o w t x stop
first-done b i d e u v r s k f us cap ss o w t x stop done steps is same asked held =
    let noted : s.journal ≡ r.journal ++ steps.devices.entries = steps.devices.noted in
    let slots : length s.slots ≡ length r.slots = steps.devices.slots in
    let g : Given = given i s.journal (length s.slots) in
    let own = at-furthest b (given i r.journal (length r.slots)) f (place d u) is.last r (subst (λ n. IsPlace b (given i r.journal (length r.slots)) n (place d u)) same is.here) is.reached is.asked is.held refl in
    let here : IsPlace b g k (place d u) = place-after b i r s steps.devices.entries k (place d u) noted slots is.here in
    let at_old : AreAt g (place d u) r = record {
      journal = sym (ap (λ n. take n s.journal) own.0 ∙ (ap (take (length r.journal)) noted ∙ take-append_seam r.journal steps.devices.entries));
      slots = own.1.slots ∙ ap (λ n. take n u.held) (sym slots);
    } in
    let at_new : AreAt g (place e v) s = record { journal = sym (ap (λ n. take n s.journal) asked ∙ take-length s.journal); slots = sym held } in
    let stops : (more : List (Option ℕ)) → Stops 0 1 steps.run.left (state_at g (place d u) more) (state_at g (place e v) more) (sinks o t) (sinks w x) stop =
    between g d e u v r s o w t x stop steps here.asks at_old at_new in
    let there : IsPlace b g (suc k) (place e v) =
    next-place b g k (place d u) (place e v) here (same-most v.asks (length s.journal) asked)
    (λ more. done-goes 1 steps.run.left _ _ (sinks o t) (sinks w x) stop done steps.run.fewer (stops more)) in
    record {
      is = record {
        input = is.input;
        here = there;
        past = past-after b g d e u us k cap (is_done stop) done steps.keeps here (places-after b i r s steps.devices.entries k (places d.kept us) noted slots is.past);
        order = at-most (suc k);
        last = place e v;
        reached = there;
        asked = asked;
        held = held;
        kept = kept-after b i r s steps.devices.entries ss noted slots is.kept;
      };
      here = here;
      more = record { asks = steps.devices.entries; is = sym (regiven i r s steps.devices.entries noted slots) };
      left = steps.run.left;
      few = steps.run.fewer;
      stops = stops;
    }
  where
    at-most : (n : ℕ) → n ≤ n
    at-most n = omega arith

    same-most : (m n : ℕ) → m ≡ n → m ≤ n
    same-most m n e = omega (arith, e)

-- before the furthest place: devices are played back
pub record Again (b : Begin) (i : List ℕ) (d e : Trail) (u v : Used) (r : Rack) (k f : ℕ) (us : List Used) (cap : ℕ) (ss : List Snapshot) : Type 0 where
  pub is : IsRun b (run i e v r (suc k) (take cap (u ∷ us)) f ss)
  pub goes : (more : List (Option ℕ)) → (effects : Effects)
      × (step (state_at (given i r.journal (length r.slots)) (place d u) more) ≡ Goes (state_at (given i r.journal (length r.slots)) (place e v) more) effects)

pub again-done : (b : Begin) (i : List ℕ) (d e : Trail) (u v : Used) (r p q : Rack) (k f : ℕ) (us : List Used) (cap : ℕ) (ss : List Snapshot) (o w t x : Output) (stop : Stop) → is_done stop ≡ true
    → Steps d e (stands d (drop u.input i) p o t) (stands e (drop v.input i) q w x) stop → IsRun b (run i d u r k us f ss) → k < f
    → AreAt (given i r.journal (length r.slots)) (place d u) p → length p.slots ≡ length r.slots → IsFront q.journal r.journal
    → v.asks ≡ length q.journal → take (length q.slots) v.held ≡ map is_some q.slots → Again b i d e u v r k f us cap ss
again-done b i d e u v r p q k f us cap ss o w t x stop done steps is before at_old count front asked held =
    let g : Given = given i r.journal (length r.slots) in
    let slots : length q.slots ≡ length r.slots = steps.devices.slots ∙ count in
    let at_new : AreAt g (place e v) q = record {
      journal = front ∙ ap (λ n. take n r.journal) (sym asked);
      slots = sym held ∙ ap (λ n. take n v.held) slots;
    } in
    let goes : (more : List (Option ℕ)) → (effects : Effects) × (step (state_at g (place d u) more) ≡ Goes (state_at g (place e v) more) effects) =
    λ more. done-goes 1 steps.run.left _ _ (sinks o t) (sinks w x) stop done steps.run.fewer (between g d e u v p q o w t x stop steps is.here.asks at_old at_new more) in
    record {
      is = record {
        input = is.input;
        here = next-place b g k (place d u) (place e v) is.here (no-more v.asks (length q.journal) (length r.journal) asked (front-short q.journal r.journal front)) goes;
        past = past-after b g d e u us k cap (is_done stop) done steps.keeps is.here is.past;
        order = one-more k f before;
        last = is.last;
        reached = is.reached;
        asked = is.asked;
        held = is.held;
        kept = is.kept;
      };
      goes = goes;
    }
  where
    no-more : (a m n : ℕ) → a ≡ m → m ≤ n → a ≤ n
    no-more a m n e h = omega (arith, e, h)

    one-more : (m n : ℕ) → m < n → suc m ≤ n
    one-more m n h = omega (arith, h)
