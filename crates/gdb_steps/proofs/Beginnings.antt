-- A walker before its first step.
use Rattle.std.proofs.Common.{◌≡◌, ℕ, ◌≤◌, Bool, true, List, [], ◌∷◌, length, map, take, is_some, replicate, refl, sym, ap, ◌∙◌, subst, arith}
use Rattle.dev_rack.specs.Rack.{State as Rack}
use Rattle.dev_rack.specs.declared.devices.Devices.{Ghosts}
use Rattle.mix_engine.specs.declared.machine.Machine.{Machine}
use Rattle.mix_debug.specs.TrailsClauses.{Trail}
use Rattle.mixed_machine.specs.Exec.{Leads}
use Rattle.mixed_machine.specs.Machine.{flat}
use Rattle.std.proofs.lemmas.List.Elements.{All-cons, All-nil}
use Rattle.gdb_steps.specs.Places.{Begin, IsKept, IsPlace, IsRun, answers_of, first_state}
use Rattle.gdb_steps.specs.Walkers.{IsFresh, begin_of, places}
use Rattle.gdb_steps.specs.WalkersClauses.{Begins}
use Rattle.gdb_steps.specs.declared.snapshot.Snapshot.{Snapshot}
use Rattle.gdb_steps.specs.declared.used.Used.{Used}
use Rattle.gdb_steps.specs.declared.walker.Walker.{Walker}
use Rattle.gdb_steps.specs.inner.Goings.{given}
use Rattle.gdb_steps.specs.inner.Images.{IsImage}
use Rattle.gdb_steps.proofs.Alone.{stays-led}
use Rattle.gdb_steps.proofs.Firsting.{rerun}
use Rattle.gdb_steps.proofs.Firsts.{run}
use Rattle.gdb_steps.proofs.Keeping.{kept-image}

abbrev pub unused : List Bool → Used
unused held = record { input = 0; asks = 0; held = held }

abbrev pub fresh_trail : Machine → Trail
fresh_trail m = record { machine = m; kept = []; breaks = [] }

fresh-place : (m : Machine) (i : List ℕ) (n : ℕ) (held : List Bool) (r : Rack) → take (length r.slots) held ≡ replicate n true
    → IsPlace (begin_of m i n) (given i r.journal (length r.slots)) 0 (record { machine = m; used = unused held })
fresh-place m i n held r slots =
    record {
      asks = none (length r.journal);
      leads = λ more.
          let b : Begin = begin_of m i n in
          subst (λ s. Leads 0 0 (first_state b (given i r.journal (length r.slots)) more) s)
          (sym (ap (λ xs. flat m.body m.active (record { input = i; slots = xs; asks = []; answers = answers_of r.journal more })) slots))
          (stays-led (first_state b (given i r.journal (length r.slots)) more));
    }
  where
    none : (k : ℕ) → 0 ≤ k
    none k = omega arith

fresh-run : (m : Machine) (i : List ℕ) (n : ℕ) (held : List Bool) (r : Rack) (s : Snapshot) → IsImage m (unused held) 0 s → IsFresh n r → take (length r.slots) held ≡ map is_some r.slots
    → IsRun (begin_of m i n) (run i (fresh_trail m) (unused held) r 0 [] 0 (s ∷ []))
unfolding places
fresh-run m i n held r s image fresh known =
    let here = fresh-place m i n held r (known ∙ fresh.slots) in
    record {
      input = refl;
      here = here;
      past = tt;
      order = at-most 0;
      last = record { machine = m; used = unused held };
      reached = here;
      asked = sym (ap length fresh.journal);
      held = known;
      kept = All-cons (IsKept (begin_of m i n) (given i r.journal (length r.slots))) s [] (kept-image (begin_of m i n) (given i r.journal (length r.slots)) m (unused held) 0 s image here) (All-nil (IsKept (begin_of m i n) (given i r.journal (length r.slots))));
    }
  where
    at-most : (k : ℕ) → k ≤ k
    at-most k = omega arith

pub fresh-begins : {D : Type 0} {G : Ghosts D} (m : Machine) (i : List ℕ) (n : ℕ) (held : List Bool) (w : Walker D G) (s : Snapshot) → IsImage m (unused held) 0 s → w.debug ≡ fresh_trail m → w.input.items ≡ i → IsFresh n w.real → w.used ≡ unused held
    → take (length w.real.slots) held ≡ map is_some w.real.slots → w.past.items ≡ [] → w.steps ≡ 0 → w.furthest ≡ 0 → w.snapshots ≡ s ∷ [] → w.breakpoints ≡ [] → w.watches ≡ [] → Begins m i n w
fresh-begins m i n held w s image debug input fresh used known past steps furthest kept breaks watches =
    record {
      run = subst (λ d. IsRun (begin_of m i n) (run w.input.items d w.used w.real w.steps w.past.items w.furthest w.snapshots)) (sym debug)
          (rerun (begin_of m i n) i w.input.items (fresh_trail m) (unused held) w.used w.real 0 w.steps [] w.past.items 0 w.furthest (s ∷ []) w.snapshots input used steps past furthest kept (fresh-run m i n held w.real s image fresh known));
      machine = ap (λ (d : Trail). d.machine) debug;
      steps = steps;
      furthest = furthest;
      breaks = breaks;
      watches = watches;
    }
