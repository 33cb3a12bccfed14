use Rattle.m68_movement.proofs.single.clear.Goals as goal

pub write-requires-clause-alterable : goal.write-requires-clause-alterable
write-requires-clause-alterable c = c.requires.alterable
