-- The frames of a whole machine are a chain.
use Rattle.mixed_machine.specs.Machine.{callers_of}
use Rattle.look_report.proofs.machine.add_callers.Goals as goal

pub depth-requires : goal.depth-requires
unfolding callers_of
depth-requires c = c.requires.chain.links

pub add_frames-requires : goal.add_frames-requires
unfolding callers_of
add_frames-requires c = c.requires.chain.links
