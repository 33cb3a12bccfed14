use Rattle.std.proofs.Common.{sym}
use Rattle.m68_movement.proofs.Ways.{by_operands}
use Rattle.m68_movement.proofs.moves.move_in_any.Goals as goal

pub returns : goal.returns
returns g c =
    by_operands g.W.Width.SIZE c.SIZE.result c.args.word c.mode_of.result c.lower_of.result 0 c.upper_of.result _ _ _ _ _ _ c.SIZE.ensures c.mode_of.ensures.is c.lower_of.ensures.is (sym c.requires) c.upper_of.ensures.is c.move_to_register.ensures
