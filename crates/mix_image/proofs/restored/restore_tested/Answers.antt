use Rattle.mix_image.proofs.Finishing.{fields-clear}
use Rattle.mix_image.proofs.restored.restore_tested.Goals as goal

pub guard_frames-requires-clause-clear : goal.guard_frames-requires-clause-clear
guard_frames-requires-clause-clear c = fields-clear c.args.bytes.now c.in_ok-machine.machine c.are_bytes.ensures c.in_ok-machine.ensures
