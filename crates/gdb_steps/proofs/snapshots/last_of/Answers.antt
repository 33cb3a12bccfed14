-- One more of them.
use Rattle.std.proofs.Common.{◌∷◌, ◌≤◌, Contains, sym, subst}
use Rattle.gdb_steps.proofs.Keeping.{contains-later}
use Rattle.gdb_steps.proofs.snapshots.last_of.Goals as goal
use Rattle.gdb_steps.proofs.snapshots.last_of.Goals.{then-kept-steps, else-kept-steps}

pub loop-kept-preserved : goal.loop-kept-preserved
loop-kept-preserved c =
    elim c.if-kept-steps.branch [
      | then-kept-steps w ↦
          subst (λ s. Contains (c.args.first.now ∷ c.args.later.now) s.now × (s.now.steps ≤ c.args.steps)) (sym w.last-is)
          (contains-later c.args.first.now c.args.later.now c.loop-kept.kept-index c.kept-item.result c.loop-kept-test.true c.kept-item.is, w.if-kept-steps.true)
      | else-kept-steps w ↦ subst (λ s. Contains (c.args.first.now ∷ c.args.later.now) s.now × (s.now.steps ≤ c.args.steps)) (sym w.last-is) c.loop-kept.invariant
    ]
