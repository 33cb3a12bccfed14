use Rattle.mix_engine.proofs.Starting.{IsStarted, body_of, started}
use Rattle.mix_engine.proofs.machine.Machine.start.Goals as goal

starts : (c : goal.In_ok-heap) → IsStarted c.args.program (body_of c.args.program c.in_ok-heap.heap)
starts c = started c.args.program c.in_ok-heap.heap c.requires c.in_ok-heap.ensures

pub returns-clause-whole : goal.returns-clause-whole
returns-clause-whole c = (starts c).whole

pub returns-clause-state : goal.returns-clause-state
returns-clause-state c = (starts c).state
