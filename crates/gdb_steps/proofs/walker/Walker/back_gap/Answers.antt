-- The steps behind a machine that is kept, looked over and gone back.
use Rattle.std.proofs.Common.{◌≡◌, ◌-◌, ◌<◌, ◌≤◌, max, refl, sym, ◌∙◌, subst, arith}
use Rattle.std.proofs.lemmas.Result.{err_from_is_err_and}
use Rattle.gdb_steps.specs.Walkers.{points_of, run_of}
use Rattle.gdb_steps.specs.inner.Backing.{IsLost}
use Rattle.gdb_steps.proofs.Backward.{lost-result, moved-join}
use Rattle.gdb_steps.proofs.Overlooking.{gap-backed}
use Rattle.gdb_steps.proofs.walker.Walker.back_gap.Goals as goal

pub returns-in_err-found-clause-walks : goal.returns-in_err-found-clause-walks
returns-in_err-found-clause-walks g c =
    let p = err_from_is_err_and c.from_residual-in_err-found.result c.from_residual-in_err-found.ensures.1 in
    lost-result c.from_residual-in_err-found.result p.0 _ (run_of c.args.self.now) (run_of c.go_to.new.self) (run_of c.look_over.new.self) p.1
    (moved-join (run_of c.args.self.now) (run_of c.restore.new.self) (run_of c.go_to.new.self) c.in_ok-restore.ensures.moves.0 c.in_ok-go_to.ensures.moves.0)
    (subst (λ l. IsLost l (run_of c.go_to.new.self) (run_of c.look_over.new.self)) (sym p.2) c.in_err-found.ensures.looks)

pub returns-in_err-return_to-clause-walks : goal.returns-in_err-return_to-clause-walks
returns-in_err-return_to-clause-walks g c =
    let p = err_from_is_err_and c.from_residual-in_err-return_to.result c.from_residual-in_err-return_to.ensures.1 in
    lost-result c.from_residual-in_err-return_to.result p.0 _ (run_of c.args.self.now) (run_of c.look_over.new.self) (run_of c.return_to.new.self) p.1
    (moved-join (run_of c.args.self.now) (run_of c.go_to.new.self) (run_of c.look_over.new.self)
    (moved-join (run_of c.args.self.now) (run_of c.restore.new.self) (run_of c.go_to.new.self) c.in_ok-restore.ensures.moves.0 c.in_ok-go_to.ensures.moves.0) c.in_ok-found.ensures.looks.moved)
    (subst (λ l. IsLost l (run_of c.look_over.new.self) (run_of c.return_to.new.self)) (sym p.2) c.in_err-return_to.ensures.moves)

pub returns-clause-walks : goal.returns-clause-walks
returns-clause-walks g c =
    let from : c.max-from.result ≡ max c.restore.new.self.steps c.args.low = c.max-from.ensures in
    let before : c.restore.new.self.steps ≤ c.args.self.now.steps - 1 = c.in_ok-restore.ensures.moves.1 in
    let earlier : c.args.low < c.args.self.now.steps = c.requires.earlier in
    gap-backed (points_of c.args.self.now) (points_of c.go_to.new.self) c.args.until c.args.low c.max-from.result c.args.self.now.steps (run_of c.args.self.now) (run_of c.go_to.new.self) (run_of c.look_over.new.self) (run_of c.return_to.new.self)
    c.in_ok-found.found c.halt_of.result (c.go_to.ensures.points ∙ c.restore.ensures.points)
    (moved-join (run_of c.args.self.now) (run_of c.restore.new.self) (run_of c.go_to.new.self) c.in_ok-restore.ensures.moves.0 c.in_ok-go_to.ensures.moves.0)
    c.in_ok-go_to.ensures.moves.1 (omega (arith, from)) (omega (arith, from, before, earlier)) refl c.in_ok-found.ensures.looks c.in_ok-return_to.ensures.moves.0 (c.in_ok-return_to.ensures.moves.1 ∙ c.place_of.ensures) c.halt_of.ensures
