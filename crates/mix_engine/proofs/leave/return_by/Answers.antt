use Rattle.std.proofs.Common.{Ok, Err, drop, refl, ap, sym, ◌∙◌}
use Rattle.proc_info.specs.Views.{signature}
use Rattle.switch_frame.specs.Records.{isa_of}
use Rattle.call_trace.specs.Lines.{ret_line}
use Rattle.mode_switch.specs.Returned.{given_back}
use Rattle.mixed_machine.specs.Leave.{leaves_with}
use Rattle.mixed_machine.specs.Machine.{callers_of}
use Rattle.mixed_machine.specs.Next.Next.{Faults}
use Rattle.mixed_machine.specs.State.{seen, with_seen}
use Rattle.mix_engine.proofs.Doing.{does-cut, does-return, line-cut, line-taken, return-some}
use Rattle.mix_engine.proofs.Returning.{IsBack, given-innermost, given-whole, gives-by, goes-back, refused-back}
use Rattle.mix_engine.proofs.leave.return_by.Goals as goal

pub resume-requires-clause-whole : goal.resume-requires-clause-whole
resume-requires-clause-whole g c =
    given-whole c.body_laws.ensures c.args.body.now c.give_back.new.ram (isa_of c.args.active.now) c.requires.whole c.in-Ok.ensures.1

pub resume-requires-clause-innermost : goal.resume-requires-clause-innermost
resume-requires-clause-innermost g c =
    given-innermost c.body_laws.ensures c.args.body.now c.give_back.new.ram (isa_of c.args.active.now) c.args.held.now (drop 1 (callers_of c.args.body.now))
    c.requires.whole c.in-Ok.ensures.1 c.requires.first

pub returns-in-Ok-tell_return-clause-does : goal.returns-in-Ok-tell_return-clause-does
returns-in-Ok-tell_return-clause-does g c =
    let body = c.args.body.now in
    let active = c.args.active.now in
    let held = c.args.held.now in
    let sig = signature c.args.sig.now in
    let outer = drop 1 (callers_of body) in
    let ram = c.give_back.new.ram in
    let file = c.give_back.new.caller in
    let new = c.resume.new.body in
    let ta = (g.W.World.seen c.args.world.now).trace in
    let tb = (g.W.World.seen c.tell_return.new.self).trace in
    let line = ret_line sig c.in-Ok.value in
    let back : IsBack body new ram active file c.resume.ensures.0 outer =
    goes-back c.body_laws.ensures body new ram active file held c.resume.ensures.0 outer c.requires.whole c.requires.first c.in-Ok.ensures.1 c.in-Ok.ensures.2 c.resume.ensures.1 in
    does-return c.call_laws.ensures.grows (λ s. leaves_with s outer sig (given_back (seen s) sig s.active held.caller))
    (λ s. record (with_seen ram s) { active = file; callers = outer }) line c.args.fault.now body new active file ta tb c.resume.ensures.0
    back.whole back.callers
    (λ around. gives-by c.body_laws.ensures body active held.caller around sig outer (Ok (record { value = c.in-Ok.value; file = file; memory = ram })) c.requires.whole c.in-Ok.ensures.0)
    back.state (line-taken ta tb line line refl c.in-Ok-tell_return.ensures.puts c.in-Ok-tell_return.ensures.cause.same)

pub returns-in-Err-tell_return-clause-does : goal.returns-in-Err-tell_return-clause-does
returns-in-Err-tell_return-clause-does g c =
    let body = c.args.body.now in
    let active = c.args.active.now in
    let held = c.args.held.now in
    let sig = signature c.args.sig.now in
    let outer = drop 1 (callers_of body) in
    let ram = c.give_back.new.ram in
    let file = c.give_back.new.caller in
    let new = c.resume.new.body in
    let ta = (g.W.World.seen c.args.world.now).trace in
    let tb = (g.W.World.seen c.tell_return.new.self).trace in
    let line = ret_line sig c.in-Ok.value in
    let back : IsBack body new ram active file c.resume.ensures.0 outer =
    goes-back c.body_laws.ensures body new ram active file held c.resume.ensures.0 outer c.requires.whole c.requires.first c.in-Ok.ensures.1 c.in-Ok.ensures.2 c.resume.ensures.1 in
    does-cut c.call_laws.ensures.grows (λ s. leaves_with s outer sig (given_back (seen s) sig s.active held.caller))
    (λ s. record (with_seen ram s) { active = file; callers = outer }) line c.args.fault.now body new active file ta tb
    back.whole
    (λ around. gives-by c.body_laws.ensures body active held.caller around sig outer (Ok (record { value = c.in-Ok.value; file = file; memory = ram })) c.requires.whole c.in-Ok.ensures.0)
    back.state (return-some sig c.in-Ok.value) (line-cut ta tb line line refl c.in-Err-tell_return.ensures.puts c.in-Err-tell_return.ensures.cause.failed)

pub returns-in-Err-clause-does : goal.returns-in-Err-clause-does
returns-in-Err-clause-does g c =
    let body = c.args.body.now in
    let active = c.args.active.now in
    let held = c.args.held.now in
    let sig = signature c.args.sig.now in
    let outer = drop 1 (callers_of body) in
    refused-back c.call_laws.ensures.grows (λ s. leaves_with s outer sig (given_back (seen s) sig s.active held.caller)) c.refuse.result c.refuse.new.fault body c.give_back.new.ram active
    (g.W.World.seen c.args.world.now).trace c.refuse.ensures.did c.in-Err.ensures.1 c.requires.whole
    (λ around. gives-by c.body_laws.ensures body active held.caller around sig outer (Err c.in-Err.access) c.requires.whole c.in-Err.ensures.0 ∙ ap Faults (sym c.refuse.ensures.cell))
