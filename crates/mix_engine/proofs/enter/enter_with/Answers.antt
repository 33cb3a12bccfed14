use Rattle.std.proofs.Common.{◌≡◌, Ok, refl, ap, ◌∙◌}
use Rattle.switch_frame.specs.RecordsClauses.{record_of}
use Rattle.call_trace.specs.Lines.{call_line}
use Rattle.mode_switch.specs.Views.{crossing, passage}
use Rattle.mixed_machine.specs.Enter.{entered, enters_with, suspended}
use Rattle.mix_engine.proofs.Doing.{call-some, does-call, does-cut, line-cut, line-taken}
use Rattle.mix_engine.proofs.Framing.{entered-is}
use Rattle.mix_engine.proofs.enter.enter_with.Goals as goal

pub start-requires-clause-held : goal.start-requires-clause-held
start-requires-clause-held g c = c.hold-held.ensures.held c.args.passed.now

pub returns-in-Ok-clause-does : goal.returns-in-Ok-clause-does
returns-in-Ok-clause-does g c cell before =
    let body = c.args.body.now in
    let call = crossing c.args.call.now in
    let range = c.args.range in
    let p = passage c.args.active.now c.args.passed.now in
    let new = c.start.new.body in
    let file = c.start.new.active in
    let ta = (g.W.World.seen c.args.world.now).trace in
    let tb = (g.W.World.seen c.tell_call.new.self).trace in
    let all = c.start.ensures in
    let r = suspended call range p in
    let line = call_line r call.sig p.args in
    let same : call_line (record_of c.hold-held.result) call.sig c.values-values.result.now ≡ line =
    ap (λ x. call_line x call.sig c.values-values.result.now) (c.hold-held.ensures.held c.args.passed.now) ∙ ap (call_line r call.sig) c.values-values.ensures.list in
    does-call c.call_laws.ensures.grows (λ s. enters_with s call range (Ok p)) (λ s. entered s call range p) line cell body new before file ta tb r
    all.whole all.callers (λ around. refl) (λ around. entered-is body new before file call range p around all)
    (line-taken ta tb (call_line (record_of c.hold-held.result) call.sig c.values-values.result.now) line same c.in-Ok.ensures.puts c.in-Ok.ensures.cause.same)

pub returns-in-Err-clause-does : goal.returns-in-Err-clause-does
returns-in-Err-clause-does g c cell before =
    let body = c.args.body.now in
    let call = crossing c.args.call.now in
    let range = c.args.range in
    let p = passage c.args.active.now c.args.passed.now in
    let new = c.start.new.body in
    let file = c.start.new.active in
    let ta = (g.W.World.seen c.args.world.now).trace in
    let tb = (g.W.World.seen c.tell_call.new.self).trace in
    let all = c.start.ensures in
    let r = suspended call range p in
    let line = call_line r call.sig p.args in
    let same : call_line (record_of c.hold-held.result) call.sig c.values-values.result.now ≡ line =
    ap (λ x. call_line x call.sig c.values-values.result.now) (c.hold-held.ensures.held c.args.passed.now) ∙ ap (call_line r call.sig) c.values-values.ensures.list in
    does-cut c.call_laws.ensures.grows (λ s. enters_with s call range (Ok p)) (λ s. entered s call range p) line cell body new before file ta tb
    all.whole (λ around. refl) (λ around. entered-is body new before file call range p around all)
    (call-some r call.sig p.args) (line-cut ta tb (call_line (record_of c.hold-held.result) call.sig c.values-values.result.now) line same c.in-Err.ensures.puts c.in-Err.ensures.cause.failed)
