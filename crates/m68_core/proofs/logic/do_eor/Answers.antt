use Rattle.m68_core.proofs.logic.do_eor.Goals as goal

pub returns-then-mode_of-eq0 : goal.returns-then-mode_of-eq0
returns-then-mode_of-eq0 c = rw (← c.upper_of.ensures.is) c.change_register.ensures
