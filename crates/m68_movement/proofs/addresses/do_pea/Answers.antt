use Rattle.m68_movement.proofs.addresses.do_pea.Goals as goal

pub control-requires-clause-control : goal.control-requires-clause-control
control-requires-clause-control c = rw (c.mode_of-mode.ensures.is, c.lower_of-lower.ensures.is) c.requires
