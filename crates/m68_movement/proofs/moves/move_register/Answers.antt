use Rattle.m68_effects.proofs.Tried.{then_by_others}
use Rattle.m68_movement.specs.inner.Moves.{moves}
use Rattle.m68_movement.proofs.moves.move_register.Goals as goal

pub returns-else-move_out : goal.returns-else-move_out
returns-else-move_out g c =
    then_by_others (λ r m. moves g.W.Width.SIZE r m c.args.word) _ _ _ _ _ _ _ _ _ _ c.if-move_out.false c.move_out.ensures c.move_any.ensures
