-- The frames of a whole machine are a chain.
use Rattle.mixed_machine.specs.Machine.{callers_of}
use Rattle.look_report.proofs.machine.add_fault_meaning.Goals as goal

pub add_hit-requires : goal.add_hit-requires
unfolding callers_of
add_hit-requires c = c.requires.chain.links
