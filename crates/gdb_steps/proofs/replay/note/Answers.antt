-- A device that was asked.
use Rattle.gdb_steps.proofs.Slotting.{noted-at}
use Rattle.gdb_steps.proofs.replay.note.Goals as goal

pub returns : goal.returns
returns c = noted-at c.args.slots.now c.args.slot c.args.word _ c.in-Some.failures c.failures_with.result c.args.answer c.requires c.in-Some.is c.failures_with.ensures
