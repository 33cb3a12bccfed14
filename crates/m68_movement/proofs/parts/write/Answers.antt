use Rattle.m68_movement.proofs.parts.write.Goals as goal

pub put-requires-clause-writable : goal.put-requires-clause-writable
put-requires-clause-writable c = c.in-Some.ensures.writable c.requires.alterable
