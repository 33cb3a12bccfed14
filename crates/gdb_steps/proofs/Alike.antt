-- Walkers that differ in their proofs alone are the same.
use Rattle.std.proofs.Common.{◌≡◌, ℕ, suc, ◌≤◌, List, length, All, ap, ◌∙◌}
use Rattle.std.proofs.Props.{props}
use Rattle.dev_rack.specs.Rack.{State}
use Rattle.dev_rack.specs.declared.devices.Devices.{Ghosts}
use Rattle.gdb_steps.specs.declared.snapshot.Snapshot.{Snapshot}
use Rattle.gdb_steps.specs.declared.used.Used.{Used}
use Rattle.gdb_steps.specs.declared.walker.Walker.{Walker}
use Rattle.gdb_steps.specs.declared.watch.Watch.{Watch}
use Rattle.gdb_steps.specs.inner.Held.{IsCounted, IsHeld, IsSafe, IsWithin}

held-prop : (i : List ℕ) (r p : State) (u : Used) → IsProp (IsHeld i r p u)
held-prop i r p u = hlevel props

kept-prop : (i : List ℕ) (r : State) (us : List Used) → IsProp (All (IsWithin i r) us)
kept-prop i r us = hlevel props

counted-prop : (us : List Used) (k f : ℕ) → IsProp (IsCounted us k f)
counted-prop us k f = hlevel props

safe-prop : (i : List ℕ) (r : State) (ss : List Snapshot) → IsProp (All (IsSafe i r) ss)
safe-prop i r ss = hlevel props

few-prop : (m n : ℕ) → IsProp (m ≤ n)
few-prop m n = hlevel props

-- where it is to stop, with proofs of what it holds
abbrev pub stopping : {D : Type 0} {G : Ghosts D} (w : Walker D G) → List ℕ → List Watch → IsHeld w.input.items w.real w.replay w.used → All (IsWithin w.input.items w.real) w.past.items → IsCounted w.past.items w.steps w.furthest → All (IsSafe w.input.items w.real) w.snapshots → length w.snapshots ≤ suc w.most_kept → Walker D G
stopping w bs ws held kept counted safe few = record w { breakpoints = bs; watches = ws; held = held; kept = kept; counted = counted; safe = safe; few = few }

pub same-walker : {D : Type 0} {G : Ghosts D} (w : Walker D G) (bs : List ℕ) (ws : List Watch) (held : IsHeld w.input.items w.real w.replay w.used) (kept : All (IsWithin w.input.items w.real) w.past.items)
    (counted : IsCounted w.past.items w.steps w.furthest) (safe : All (IsSafe w.input.items w.real) w.snapshots) (few : length w.snapshots ≤ suc w.most_kept) → stopping w bs ws held kept counted safe few ≡ record w { breakpoints = bs; watches = ws }
same-walker w bs ws held kept counted safe few =
    ap (λ x. stopping w bs ws x kept counted safe few) (held-prop w.input.items w.real w.replay w.used held w.held)
    ∙ (ap (λ x. stopping w bs ws w.held x counted safe few) (kept-prop w.input.items w.real w.past.items kept w.kept)
    ∙ (ap (λ x. stopping w bs ws w.held w.kept x safe few) (counted-prop w.past.items w.steps w.furthest counted w.counted)
    ∙ (ap (λ x. stopping w bs ws w.held w.kept w.counted x few) (safe-prop w.input.items w.real w.snapshots safe w.safe)
    ∙ ap (λ x. stopping w bs ws w.held w.kept w.counted w.safe x) (few-prop (length w.snapshots) (suc w.most_kept) few w.few))))
