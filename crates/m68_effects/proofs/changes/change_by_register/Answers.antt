use Rattle.m68_effects.proofs.changes.change_by_register.Goals as goal

pub returns : goal.returns
returns c = rw (← c.upper_of.ensures.is) c.change_operand.ensures
