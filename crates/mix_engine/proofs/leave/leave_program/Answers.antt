use Rattle.std.proofs.Common.{◌∙◌, ap, sym}
use Rattle.mixed_machine.specs.Leave.{at_gate}
use Rattle.mixed_machine.specs.Machine.{flat}
use Rattle.mixed_machine.specs.Next.Next.{Faults}
use Rattle.mix_engine.proofs.Doing.{does-exit, does-refused}
use Rattle.mix_engine.proofs.Returning.{gate-exits, gate-stays}
use Rattle.mix_engine.proofs.leave.leave_program.Goals as goal

pub returns-then-is_exit : goal.returns-then-is_exit
returns-then-is_exit c a =
    let body = c.args.body.now in
    let active = c.args.active.now in
    does-exit c.call_laws.ensures.grows at_gate 0 c.args.fault.now body active a c.requires.whole
    (λ around. gate-exits (flat body active around) c.requires.none c.if-is_exit.ensures)

pub returns-else-is_exit : goal.returns-else-is_exit
returns-else-is_exit c a =
    let body = c.args.body.now in
    let active = c.args.active.now in
    does-refused c.call_laws.ensures.grows at_gate c.unmatched.result c.unmatched.new.fault body active a c.unmatched.ensures.did c.requires.whole
    (λ around. gate-stays (flat body active around) c.requires.none c.if-is_exit.ensures ∙ ap Faults (sym c.unmatched.ensures.cell))
