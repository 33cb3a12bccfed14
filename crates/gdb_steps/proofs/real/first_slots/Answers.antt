-- One more slot holds a device.
use Rattle.std.proofs.Common.{◌∙◌, arith, length, ◌<◌}
use Rattle.std.proofs.lemmas.List.{length-set}
use Rattle.gdb_steps.proofs.Slotting.{more-true}
use Rattle.gdb_steps.proofs.real.first_slots.Goals as goal

pub loop-at-preserved : goal.loop-at-preserved
loop-at-preserved c =
    let few : c.loop-at.at < length c.loop-at.held = omega (arith, c.loop-at.invariant.0) in
    (length-set _ _ _ ∙ c.loop-at.invariant.0, more-true c.loop-at.held c.loop-at.at few c.loop-at.invariant.1)
