use Rattle.m68_movement.proofs.moves.move_out_far.Goals as goal

pub returns-in-One : goal.returns-in-One
returns-in-One g c = rw (← c.SIZE.ensures, c.in-One.is) c.move_out_at.ensures

pub returns-in-Two : goal.returns-in-Two
returns-in-Two g c = rw (← c.SIZE.ensures, c.in-Two.is) c.move_out_at-in-Two.ensures

pub returns-in-Four : goal.returns-in-Four
returns-in-Four g c = rw (← c.SIZE.ensures, c.in-Four.is) c.move_out_at-in-Four.ensures
