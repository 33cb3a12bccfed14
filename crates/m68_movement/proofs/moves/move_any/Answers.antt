use Rattle.std.proofs.Common.{◌∙◌, sym}
use Rattle.m68_movement.proofs.Ways.{by_operands}
use Rattle.m68_movement.proofs.moves.move_any.Goals as goal

pub move_from_register-requires-clause-alterable : goal.move_from_register-requires-clause-alterable
move_from_register-requires-clause-alterable g c = rw (c.move_mode_of.ensures.is, c.upper_of.ensures.is) c.requires

pub move_between-requires-clause-alterable : goal.move_between-requires-clause-alterable
move_between-requires-clause-alterable g c = rw (c.move_mode_of.ensures.is, c.upper_of.ensures.is) c.requires

pub returns-then-from-eq0 : goal.returns-then-from-eq0
returns-then-from-eq0 g c =
    by_operands g.W.Width.SIZE c.SIZE.result c.args.word 0 c.lower_of.result c.move_mode_of.result c.upper_of.result _ _ _ _ _ _ c.SIZE.ensures (sym c.if-from-eq0.true ∙ c.mode_of.ensures.is) c.lower_of.ensures.is c.move_mode_of.ensures.is c.upper_of.ensures.is c.move_from_register.ensures

pub returns-else-from-eq0 : goal.returns-else-from-eq0
returns-else-from-eq0 g c =
    by_operands g.W.Width.SIZE c.SIZE-else-from-eq0.result c.args.word c.mode_of.result c.lower_of.result c.move_mode_of.result c.upper_of.result _ _ _ _ _ _ c.SIZE-else-from-eq0.ensures c.mode_of.ensures.is c.lower_of.ensures.is c.move_mode_of.ensures.is c.upper_of.ensures.is c.move_between.ensures
