use Rattle.m68_effects.proofs.Tried.{then_by_others}
use Rattle.m68_movement.specs.inner.Moves.{moves}
use Rattle.m68_movement.proofs.moves.do_move.Goals as goal

pub returns-else-move_in : goal.returns-else-move_in
returns-else-move_in g c =
    then_by_others (λ r m. moves g.W.Width.SIZE r m c.args.word) _ _ _ _ _ _ _ _ _ _ c.if-move_in.false c.move_in.ensures c.move_in_any-else-move_in.ensures
