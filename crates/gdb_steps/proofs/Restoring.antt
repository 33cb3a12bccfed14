-- A machine that was kept, as a place of the run.
use Rattle.std.proofs.Common.{◌≡◌, ◌⊎◌, inl, inr, ℕ, ◌≤◌, Contains, List, [], length, Result, Ok, Err, refl, sym, ◌∙◌, subst, arith}
use Rattle.std.proofs.lemmas.List.Elements.{All-contains}
use Rattle.dev_rack.specs.Rack.{State as Rack}
use Rattle.mix_engine.specs.declared.machine.Machine.{Machine}
use Rattle.mix_debug.specs.TrailsClauses.{Trail}
use Rattle.mix_image.specs.Spelling.{HasSpelling, spell}
use Rattle.mix_image.specs.declared.error.ImageError.{ImageError}
use Rattle.mix_io.specs.Memory.{kept_as}
use Rattle.gdb_steps.specs.Places.{Begin, Given, IsKept, IsPlace, IsRun}
use Rattle.gdb_steps.specs.Walkers.{places}
use Rattle.gdb_steps.specs.WalkersClauses.{Moved}
use Rattle.gdb_steps.specs.declared.snapshot.Snapshot.{Snapshot}
use Rattle.gdb_steps.specs.declared.used.Used.{Used}
use Rattle.gdb_steps.specs.inner.Goings.{given}
use Rattle.gdb_steps.proofs.Beginnings.{fresh_trail}
use Rattle.gdb_steps.proofs.Firsts.{place-at, run}

abbrev made : Machine → Result Machine ImageError
made a = Ok a

ok-only : (a x : Machine) (e : ImageError) → (made a ≡ Ok x) ⊎ (made a ≡ Err e) → x ≡ a
ok-only a x e (inl same) = cc
ok-only a x e (inr other) = cc

pub restored-only : (result : Result Machine ImageError) (bytes image : List ℕ) (a : Machine) (e : ImageError) → result ≡ Ok a → bytes ≡ image → ((m : Machine) → HasSpelling m → spell m ≡ bytes → (result ≡ Ok m) ⊎ (result ≡ Err e))
    → (x : Machine) → HasSpelling x → spell x ≡ image → x ≡ a
restored-only result bytes image a e is same only x has spelled =
    ok-only a x e (subst (λ (r : Result Machine ImageError). (r ≡ Ok x) ⊎ (r ≡ Err e)) is (only x has (spelled ∙ sym same)))

at-kept : (b : Begin) (i : List ℕ) (d : Trail) (u : Used) (r : Rack) (k : ℕ) (us : List Used) (f : ℕ) (ss : List Snapshot) (s : Snapshot) (m : Machine) → Contains ss s → s.steps ≤ k
    → ((x : Machine) → HasSpelling x → spell x ≡ kept_as s.image [] → x ≡ m) → IsRun b (run i d u r k us f ss) → IsRun b (run i (fresh_trail m) s.used r s.steps [] f ss)
unfolding places
at-kept b i d u r k us f ss s m among few only is =
    let g : Given = given i r.journal (length r.slots) in
    let kept = All-contains (IsKept b g) ss s is.kept among in
    let same : kept.0 ≡ m = only kept.0 kept.1 (sym kept.2) in
    record {
      input = is.input;
      here = subst (λ x. IsPlace b g s.steps (place-at x s.used)) same kept.3;
      past = tt;
      order = less s.steps k f few is.order;
      last = is.last;
      reached = is.reached;
      asked = is.asked;
      held = is.held;
      kept = is.kept;
    }
  where
    less : (n k f : ℕ) → n ≤ k → k ≤ f → n ≤ f
    less n k f x y = omega (arith, x, y)

pub moved-restored : (i : List ℕ) (d e : Trail) (u : Used) (r : Rack) (k : ℕ) (us vs : List Used) (f : ℕ) (ss : List Snapshot) (s : Snapshot) (m : Machine) → Contains ss s → s.steps ≤ k
    → ((x : Machine) → HasSpelling x → spell x ≡ kept_as s.image [] → x ≡ m) → e ≡ fresh_trail m → vs ≡ [] → Moved (run i d u r k us f ss) (run i e s.used r s.steps vs f ss)
moved-restored i d e u r k us vs f ss s m among few only fresh none =
    record {
      run = λ b is.
          subst (λ x. IsRun b (run i x s.used r s.steps vs f ss)) (sym fresh)
          (subst (λ xs. IsRun b (run i (fresh_trail m) s.used r s.steps xs f ss)) (sym none) (at-kept b i d u r k us f ss s m among few only is));
      same = refl;
    }
