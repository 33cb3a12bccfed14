use Rattle.m68_movement.proofs.single.do_tas.Goals as goal

pub put-requires-clause-writable : goal.put-requires-clause-writable
put-requires-clause-writable c = c.in-Some.ensures.writable (rw (c.mode_of-mode.ensures.is, c.lower_of-lower.ensures.is) c.requires)
