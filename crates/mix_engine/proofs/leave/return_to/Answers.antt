use Rattle.std.proofs.Common.{ap, drop, sym}
use Rattle.proc_info.specs.Views.{signature}
use Rattle.switch_frame.specs.RecordsClauses.{record_of}
use Rattle.mode_switch.specs.Returned.{given_back}
use Rattle.mixed_machine.specs.Leave.{leaves, leaves_with}
use Rattle.mixed_machine.specs.inner.Parts.{leaves_by}
use Rattle.mixed_machine.specs.Machine.{callers_of, flat}
use Rattle.mixed_machine.specs.State.{seen}
use Rattle.mix_engine.proofs.Doing.{does-same}
use Rattle.mix_engine.proofs.leave.return_to.Goals as goal

pub returns-clause-does : goal.returns-clause-does
unfolding leaves
returns-clause-does g c =
    let body = c.args.body.now in
    let active = c.args.active.now in
    let held = c.args.held.now in
    let outer = drop 1 (callers_of body) in
    let sig = signature c.read_signed-sig.result in
    does-same (λ s. leaves_with s outer sig (given_back (seen s) sig s.active held.caller)) (λ s. leaves s (record_of held) outer)
    c.return_by.result c.return_by.new.fault body c.return_by.new.body active c.return_by.new.active
    (g.W.World.seen c.args.world.now).trace (g.W.World.seen c.return_by.new.world).trace
    (λ around. ap (leaves_by (flat body active around) (record_of held) outer) (sym c.read_signed-sig.ensures.value)) c.return_by.ensures.does
