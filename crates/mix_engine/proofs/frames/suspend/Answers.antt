use Rattle.mix_engine.proofs.Framing.{suspends}
use Rattle.mix_engine.proofs.frames.suspend.Goals as goal

pub returns : goal.returns
returns c =
    suspends c.body_laws.ensures c.call_laws.ensures c.args.body.now c.push.new.ram c.push.new.top c.args.held.now c.requires.whole c.requires.place c.requires.kind
    c.push.ensures.chain c.push.ensures.records c.push.ensures.memory c.push.ensures.len
