use Rattle.std.proofs.Common.{ap}
use Rattle.mode_switch.specs.Views.{crossing, wanted_of}
use Rattle.mixed_machine.specs.Enter.{crosses, enters}
use Rattle.mixed_machine.specs.Machine.{flat}
use Rattle.mix_engine.proofs.Doing.{does-same}
use Rattle.mix_engine.proofs.enter.cross.Goals as goal

pub returns-in-Calls-clause-does : goal.returns-in-Calls-clause-does
returns-in-Calls-clause-does g c =
    let body = c.args.body.now in
    let active = c.args.active.now in
    does-same (λ s. enters s (crossing c.in-Calls.call)) (λ s. crosses s (wanted_of c.args.wanted.now)) c.enter.result c.enter.new.fault body c.enter.new.body active c.enter.new.active
    (g.W.World.seen c.args.world.now).trace (g.W.World.seen c.enter.new.world).trace
    (λ around. ap (λ w. crosses (flat body active around) (wanted_of w)) c.in-Calls.is) c.enter.ensures.does
