-- A step of a walker that is not done.
use Rattle.std.proofs.Common.{◌≡◌, ℕ, ◌≤◌, Bool, true, false, List, [], ◌++◌, length, map, take, drop, is_some, Option, refl, sym, ap, ◌∙◌, subst}
use Rattle.std.proofs.Math.Seq.{take-append_seam}
use Rattle.mix_io.specs.Streams.{Output}
use Rattle.dev_rack.specs.Rack.{State as Rack}
use Rattle.mixed_machine.specs.declared.stop.Stop.{Stop}
use Rattle.mixed_machine.specs.Runs.{Stops}
use Rattle.mix_engine.specs.declared.machine.Machine.{Machine}
use Rattle.mix_debug.specs.CostsClauses.{Kept}
use Rattle.mix_debug.specs.TrailsClauses.{Keeps, Trail, is_done}
use Rattle.gdb_steps.specs.Places.{ArePlaces, Begin, Given, IsPlace, IsRun, Run, state_at}
use Rattle.gdb_steps.specs.Walkers.{places, sinks}
use Rattle.gdb_steps.specs.declared.snapshot.Snapshot.{Snapshot}
use Rattle.gdb_steps.specs.declared.used.Used.{Used}
use Rattle.gdb_steps.specs.inner.Steps.{AreAt, Steps, stands}
use Rattle.gdb_steps.proofs.Doing.{between, not-done-stays, place}
use Rattle.gdb_steps.proofs.Firsts.{kept-after, place-after, places-after, regiven, run}
use Rattle.gdb_steps.proofs.Goings.{more-none}
use Rattle.gdb_steps.specs.inner.Goings.{More, given}
use Rattle.gdb_steps.proofs.Standing.{at-furthest}

-- it took nothing, and no device was asked or given up
pub record SameAround (xs ys : List ℕ) (r s : Rack) : Type 0 where
  pub input : ys ≡ xs
  pub journal : s.journal ≡ r.journal
  pub slots : map is_some s.slots ≡ map is_some r.slots

pub same-around : (d e : Trail) (xs ys : List ℕ) (r s : Rack) (o w t x : Output) (stop : Stop) → is_done stop ≡ false
    → Steps d e (stands d xs r o t) (stands e ys s w x) stop → SameAround xs ys r s
same-around d e xs ys r s o w t x stop not_done steps =
    let over = steps.run.run in
    let before = over.told ys refl in
    let same = not-done-stays steps.run.left _ _ _ _ stop not_done steps.run.fewer (over.each before.0 ys [] before.2) in
    record {
      input = ap (λ s. s.around.input) same ∙ before.1;
      journal = ap (λ s. s.around.asks) same;
      slots = ap (λ s. s.around.slots) same;
    }

same-machine : (done : Bool) (d e : Trail) → done ≡ false → Keeps done d e → (e.machine ≡ d.machine) × (e.kept ≡ d.kept)
same-machine true d e is keeps = cc
same-machine false d e is keeps = keeps

-- where it took nothing
stands-still : (d e : Trail) (u : Used) (i ys : List ℕ) (r s : Rack) (o w t x : Output) (stop : Stop) → ys ≡ drop u.input i
    → Steps d e (stands d (drop u.input i) r o t) (stands e ys s w x) stop → Steps d e (stands d (drop u.input i) r o t) (stands e (drop u.input i) s w x) stop
stands-still d e u i ys r s o w t x stop is steps = subst (λ zs. Steps d e (stands d (drop u.input i) r o t) (stands e zs s w x) stop) is steps

-- it stays where it is
pub record Stood (b : Begin) (i : List ℕ) (d e : Trail) (u : Used) (p : Rack) (g : Given) (r : Run) (o w t x : Output) (stop : Stop) : Type 0 where
  pub is : IsRun b r
  pub here : IsPlace b g r.steps (place d u)
  pub more : More (given i p.journal (length p.slots)) g
  pub left : ℕ
  pub few : left ≤ 1
  pub stops : (more : List (Option ℕ)) → Stops 0 1 left (state_at g (place d u) more) (state_at g (place e u) more) (sinks o t) (sinks w x) stop
  pub same : e.machine ≡ d.machine

moved-place : (b : Begin) (g : Given) (n : ℕ) (u : Used) (m : Machine) (d : Machine) → m ≡ d → IsPlace b g n (record { machine = d; used = u }) → IsPlace b g n (record { machine = m; used = u })
moved-place b g n u m d same is = subst (λ x. IsPlace b g n (record { machine = x; used = u })) (sym same) is

moved-past : (b : Begin) (g : Given) (n : ℕ) (us : List Used) (ks ls : List Kept) → ks ≡ ls → ArePlaces b g n (places ls us) → ArePlaces b g n (places ks us)
moved-past b g n us ks ls same are = subst (λ zs. ArePlaces b g n (places zs us)) (sym same) are

-- at the furthest place
pub first-stood : (b : Begin) (i : List ℕ) (d e : Trail) (u : Used) (ys : List ℕ) (r s : Rack) (k f : ℕ) (us : List Used) (ss : List Snapshot) (o w t x : Output) (stop : Stop) → is_done stop ≡ false
    → Steps d e (stands d (drop u.input i) r o t) (stands e ys s w x) stop → IsRun b (run i d u r k us f ss) → k ≡ f
    → Stood b i d e u r (given i s.journal (length s.slots)) (run i e u s k us f ss) o w t x stop
first-stood b i d e u ys r s k f us ss o w t x stop not_done steps is same =
    let around = same-around d e (drop u.input i) ys r s o w t x stop not_done steps in
    let kept = same-machine (is_done stop) d e not_done steps.keeps in
    let noted : s.journal ≡ r.journal ++ steps.devices.entries = steps.devices.noted in
    let slots : length s.slots ≡ length r.slots = steps.devices.slots in
    let g : Given = given i s.journal (length s.slots) in
    let own = at-furthest b (given i r.journal (length r.slots)) f (place d u) is.last r (subst (λ n. IsPlace b (given i r.journal (length r.slots)) n (place d u)) same is.here) is.reached is.asked is.held refl in
    let here : IsPlace b g k (place d u) = place-after b i r s steps.devices.entries k (place d u) noted slots is.here in
    let at_old : AreAt g (place d u) r = record {
      journal = sym (ap (λ n. take n s.journal) own.0 ∙ (ap (take (length r.journal)) noted ∙ take-append_seam r.journal steps.devices.entries));
      slots = own.1.slots ∙ ap (λ n. take n u.held) (sym slots);
    } in
    let at_new : AreAt g (place e u) s = record { journal = around.journal ∙ at_old.journal; slots = around.slots ∙ at_old.slots } in
    let moved : Steps d e (stands d (drop u.input i) r o t) (stands e (drop u.input i) s w x) stop = stands-still d e u i ys r s o w t x stop around.input steps in
    record {
      is = record {
        input = is.input;
        here = moved-place b g k u e.machine d.machine kept.0 here;
        past = moved-past b g k us e.kept d.kept kept.1 (places-after b i r s steps.devices.entries k (places d.kept us) noted slots is.past);
        order = is.order;
        last = is.last;
        reached = place-after b i r s steps.devices.entries f is.last noted slots is.reached;
        asked = is.asked ∙ ap length (sym around.journal);
        held = ap (λ n. take n is.last.used.held) slots ∙ (is.held ∙ sym around.slots);
        kept = kept-after b i r s steps.devices.entries ss noted slots is.kept;
      };
      here = here;
      more = record { asks = steps.devices.entries; is = sym (regiven i r s steps.devices.entries noted slots) };
      left = moved.run.left;
      few = moved.run.fewer;
      stops = between g d e u u r s o w t x stop moved here.asks at_old at_new;
      same = kept.0;
    }

-- before it
pub again-stood : (b : Begin) (i : List ℕ) (d e : Trail) (u : Used) (ys : List ℕ) (r p q : Rack) (k f : ℕ) (us : List Used) (ss : List Snapshot) (o w t x : Output) (stop : Stop) → is_done stop ≡ false
    → Steps d e (stands d (drop u.input i) p o t) (stands e ys q w x) stop → IsRun b (run i d u r k us f ss) → AreAt (given i r.journal (length r.slots)) (place d u) p
    → Stood b i d e u r (given i r.journal (length r.slots)) (run i e u r k us f ss) o w t x stop
again-stood b i d e u ys r p q k f us ss o w t x stop not_done steps is at_old =
    let around = same-around d e (drop u.input i) ys p q o w t x stop not_done steps in
    let kept = same-machine (is_done stop) d e not_done steps.keeps in
    let g : Given = given i r.journal (length r.slots) in
    let at_new : AreAt g (place e u) q = record { journal = around.journal ∙ at_old.journal; slots = around.slots ∙ at_old.slots } in
    let moved : Steps d e (stands d (drop u.input i) p o t) (stands e (drop u.input i) q w x) stop = stands-still d e u i ys p q o w t x stop around.input steps in
    record {
      is = record {
        input = is.input;
        here = moved-place b g k u e.machine d.machine kept.0 is.here;
        past = moved-past b g k us e.kept d.kept kept.1 is.past;
        order = is.order;
        last = is.last;
        reached = is.reached;
        asked = is.asked;
        held = is.held;
        kept = is.kept;
      };
      here = is.here;
      more = more-none g;
      left = moved.run.left;
      few = moved.run.fewer;
      stops = between g d e u u p q o w t x stop moved is.here.asks at_old at_new;
      same = kept.0;
    }
