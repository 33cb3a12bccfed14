use Rattle.std.proofs.Common.{◌∙◌, ap, sym, drop}
use Rattle.switch_frame.specs.RecordsClauses.{record_of}
use Rattle.mixed_machine.specs.Leave.{at_gate, leaves}
use Rattle.mixed_machine.specs.Machine.{callers_of, flat}
use Rattle.mixed_machine.specs.Next.Next.{Faults}
use Rattle.mix_engine.proofs.Doing.{does-refused, does-same}
use Rattle.mix_engine.proofs.Returning.{gate-returns, gate-waits}
use Rattle.mix_engine.proofs.leave.leave_callee.Goals as goal

pub returns-then-is_return-clause-does : goal.returns-then-is_return-clause-does
returns-then-is_return-clause-does g c =
    let body = c.args.body.now in
    let active = c.args.active.now in
    let r = record_of c.args.held.now in
    let outer = drop 1 (callers_of body) in
    does-same (λ s. leaves s r outer) at_gate c.return_to.result c.return_to.new.fault body c.return_to.new.body active c.return_to.new.active
    (g.W.World.seen c.args.world.now).trace (g.W.World.seen c.return_to.new.world).trace
    (λ around. gate-returns (flat body active around) r outer c.requires.first c.if-is_return.ensures) c.return_to.ensures.does

pub returns-else-is_return-clause-does : goal.returns-else-is_return-clause-does
returns-else-is_return-clause-does g c =
    let body = c.args.body.now in
    let active = c.args.active.now in
    let r = record_of c.args.held.now in
    let outer = drop 1 (callers_of body) in
    does-refused c.call_laws.ensures.grows at_gate c.unmatched.result c.unmatched.new.fault body active
    (g.W.World.seen c.args.world.now).trace c.unmatched.ensures.did c.requires.whole
    (λ around. gate-waits (flat body active around) r outer c.requires.first c.if-is_return.ensures ∙ ap Faults (sym c.unmatched.ensures.cell))
