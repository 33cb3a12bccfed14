use Rattle.m68_effects.proofs.registers.take_elsewhere.Goals as goal

pub returns-in-Add : goal.returns-in-Add
returns-in-Add c = rw c.in-Add.is c.add_elsewhere.ensures

pub returns-in-Sub : goal.returns-in-Sub
returns-in-Sub c = rw c.in-Sub.is c.sub_elsewhere.ensures

pub returns-in-And : goal.returns-in-And
returns-in-And c = rw c.in-And.is c.and_elsewhere.ensures

pub returns-in_default : goal.returns-in_default
returns-in_default c = c.take_other.ensures
