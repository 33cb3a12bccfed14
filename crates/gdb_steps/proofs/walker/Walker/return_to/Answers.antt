-- Steps are taken back or not, and where they do not reach the run goes on from a machine that was kept.
use Rattle.std.proofs.Common.{◌≡◌, sym, subst}
use Rattle.gdb_steps.specs.Walkers.{run_of}
use Rattle.gdb_steps.specs.WalkersClauses.{Moved}
use Rattle.gdb_steps.proofs.Backward.{moved-join, moved-none, moves-result}
use Rattle.gdb_steps.proofs.walker.Walker.return_to.Goals as goal
use Rattle.gdb_steps.proofs.walker.Walker.return_to.Goals.{else-is_near-via-then-is_near+else-take_back, else-is_near-via-else-is_near}

pub returns-clause-moves : goal.returns-clause-moves
returns-clause-moves g c =
    let near : Moved (run_of c.args.self.now) (run_of c.else-is_near.self) = elim c.else-is_near.branch [
      | else-is_near-via-then-is_near+else-take_back w ↦ subst (λ v. Moved (run_of c.args.self.now) (run_of v)) (sym w.self-is) w.take_back.ensures.moves
      | else-is_near-via-else-is_near w ↦ subst (λ v. Moved (run_of c.args.self.now) (run_of v)) (sym w.self-is) (moved-none (run_of c.args.self.now))
    ] in
    moves-result (run_of c.args.self.now) (run_of c.restore.new.self) (run_of c.go_to.new.self) (c.go_to.new.self.steps ≡ c.args.steps) c.go_to.result
    (moved-join (run_of c.args.self.now) (run_of c.else-is_near.self) (run_of c.restore.new.self) near c.in_ok-restore.ensures.moves.0) c.go_to.ensures.moves
