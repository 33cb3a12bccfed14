use Rattle.m68_effects.proofs.Tried.{then_by_others}
use Rattle.m68_movement.specs.inner.Moves.{moves}
use Rattle.m68_movement.proofs.moves.move_in_memory.Goals as goal

pub returns-else-move_usual : goal.returns-else-move_usual
returns-else-move_usual g c =
    then_by_others (λ r m. moves g.W.Width.SIZE r m c.args.word) _ _ _ _ _ _ _ _ _ _ c.if-move_usual.false c.move_usual.ensures c.move_any.ensures
