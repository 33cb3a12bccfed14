-- An ask leaves the slots that hold a device.
use Rattle.gdb_steps.proofs.Slotting.{asks-known}
use Rattle.gdb_steps.proofs.real.RealDevices.ask.Goals as goal

pub invariant_of-self : goal.invariant_of-self
invariant_of-self g c = asks-known _ _ _ _ _ _ c.ask.ensures c.self.invariant
