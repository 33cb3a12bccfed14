-- A slot that is emptied.
use Rattle.gdb_steps.proofs.Slotting.{emptied}
use Rattle.gdb_steps.proofs.replay.empty.Goals as goal

pub returns : goal.returns
returns c = emptied c.args.slots.now c.args.slot
