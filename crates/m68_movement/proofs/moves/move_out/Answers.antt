use Rattle.std.proofs.Common.{rules}
use Rattle.m68_movement.proofs.moves.move_out.Goals as goal

pub returns : goal.returns
returns c =
    let from = c.register_value-value.ensures in
    rw (← c.mode_of.ensures.is, ← c.lower_of.ensures.is, ← c.move_mode_of.ensures.is, ← c.upper_of.ensures.is, from.1, from.0, from.2) (search rules)
