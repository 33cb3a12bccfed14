-- A slot that is given up is known to hold no device.
use Rattle.std.proofs.Common.{sym, subst}
use Rattle.gdb_steps.specs.inner.Slots.{IsKnown}
use Rattle.gdb_steps.proofs.Slotting.{ejects-known}
use Rattle.gdb_steps.proofs.real.RealDevices.eject.Goals as goal

pub invariant_of-self : goal.invariant_of-self
invariant_of-self g c = subst (IsKnown _) (sym c.give_up.ensures) (ejects-known _ _ _ _ _ c.if-ejected.true c.eject-ejected.ensures c.self.invariant)
