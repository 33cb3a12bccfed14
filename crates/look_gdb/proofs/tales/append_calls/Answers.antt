use Rattle.switch_frame.specs.Records.{isa_of}
use Rattle.mixed_machine.specs.Machine.{callers_of}
use Rattle.look_gdb.proofs.Chains.{links_of}
use Rattle.look_gdb.proofs.tales.append_calls.Goals as goal

pub add_frames-requires : goal.add_frames-requires
add_frames-requires c = links_of c.args.machine.now.body (isa_of c.args.machine.now.active) c.requires

pub returns : goal.returns
unfolding callers_of
returns c = c.add_frames.ensures
