use Rattle.std.proofs.Common.{Ok, Err, ap, sym, subst, ◌∙◌}
use Rattle.big_memory.specs.Faults.{fault_of}
use Rattle.switch_frame.specs.Records.{isa_of}
use Rattle.switch_frame.specs.CallsClauses.{IsPlace}
use Rattle.mode_switch.specs.Views.{crossing, passage}
use Rattle.mode_switch.specs.laws.Wanted.{IsMeant}
use Rattle.mixed_machine.specs.Enter.{enters, enters_with}
use Rattle.mixed_machine.specs.Machine.{IsWhole}
use Rattle.mixed_machine.specs.Next.Next.{Faults}
use Rattle.switch_frame.specs.Files.{pc_of}
use Rattle.mix_engine.specs.inner.Does.{Does}
use Rattle.mix_engine.proofs.Doing.{does-refused, does-same}
use Rattle.mix_engine.proofs.Entering.{bytes-are, enters-by, passes-by}
use Rattle.mix_engine.proofs.Framing.{callers-are}
use Rattle.mix_engine.proofs.enter.enter.Goals as goal

pub enter_with-requires-clause-place : goal.enter_with-requires-clause-place
enter_with-requires-clause-place g c =
    let body = c.args.body.now in
    subst (λ rs. IsPlace body.ram rs c.args.call.now.kind c.in-Ok.range.0 c.in-Ok.range.1) (sym (callers-are body)) c.in-Ok.ensures.place

pub enter_with-requires-clause-whole : goal.enter_with-requires-clause-whole
enter_with-requires-clause-whole g c = subst (IsWhole c.args.body.now) (sym c.in-Ok-pass.ensures.caller) c.requires.whole

pub enter_with-requires-clause-meant : goal.enter_with-requires-clause-meant
enter_with-requires-clause-meant g c = subst (λ set. IsMeant set (crossing c.args.call.now)) (sym c.in-Ok-pass.ensures.caller) c.requires.meant

pub returns-in-Ok-pass-clause-does : goal.returns-in-Ok-pass-clause-does
returns-in-Ok-pass-clause-does g c =
    let body = c.args.body.now in
    let active = c.args.active.now in
    let call = crossing c.args.call.now in
    let range = c.in-Ok.range in
    let p = passage c.pass.new.active c.in-Ok-pass.passed in
    does-same (λ s. enters_with s call range (Ok p)) (λ s. enters s call) c.enter_with.result c.args.fault.now body c.enter_with.new.body active c.enter_with.new.active
    (g.W.World.seen c.args.world.now).trace (g.W.World.seen c.enter_with.new.world).trace
    (λ around. enters-by c.body_laws.ensures body (isa_of active) active around call c.sp.result c.below-below.result (Ok range) c.requires.whole c.sp.ensures (bytes-are c.callee.result c.below-below.result call c.passes_selector.result c.callee.ensures c.passes_selector.ensures c.below-below.ensures.value) c.in-Ok.ensures.exact
    ∙ passes-by c.body_laws.ensures body (isa_of active) active around call range (Ok p) c.requires.whole c.in-Ok-pass.ensures.exact)
    (c.enter_with.ensures.does c.args.fault.now active)

pub returns-in-Err-pass-clause-does : goal.returns-in-Err-pass-clause-does
returns-in-Err-pass-clause-does g c =
    let body = c.args.body.now in
    let active = c.args.active.now in
    let call = crossing c.args.call.now in
    let range = c.in-Ok.range in
    let ta = (g.W.World.seen c.args.world.now).trace in
    let same = c.in-Err-pass.ensures.refused in
    subst (λ w. Does (λ s. enters s call) c.refuse.result c.refuse.new.fault body body active w ta ta) (sym same)
    (does-refused c.call_laws.ensures.grows (λ s. enters s call) c.refuse.result c.refuse.new.fault body active
    (g.W.World.seen c.args.world.now).trace c.refuse.ensures.did c.requires.whole
    (λ around. enters-by c.body_laws.ensures body (isa_of active) active around call c.sp.result c.below-below.result (Ok range) c.requires.whole c.sp.ensures (bytes-are c.callee.result c.below-below.result call c.passes_selector.result c.callee.ensures c.passes_selector.ensures c.below-below.ensures.value) c.in-Ok.ensures.exact
    ∙ (passes-by c.body_laws.ensures body (isa_of active) active around call range (Err c.in-Err-pass.access) c.requires.whole c.in-Err-pass.ensures.exact
    ∙ ap Faults (sym (c.refuse.ensures.cell ∙ ap (λ w. fault_of (pc_of w) c.in-Err-pass.access) same)))))

pub returns-in-Err-clause-does : goal.returns-in-Err-clause-does
returns-in-Err-clause-does g c =
    let body = c.args.body.now in
    let active = c.args.active.now in
    let call = crossing c.args.call.now in
    does-refused c.call_laws.ensures.grows (λ s. enters s call) c.refuse_full.result c.refuse_full.new.fault body active
    (g.W.World.seen c.args.world.now).trace c.refuse_full.ensures.did c.requires.whole
    (λ around. enters-by c.body_laws.ensures body (isa_of active) active around call c.sp.result c.below-below.result (Err c.in-Err.full) c.requires.whole c.sp.ensures (bytes-are c.callee.result c.below-below.result call c.passes_selector.result c.callee.ensures c.passes_selector.ensures c.below-below.ensures.value) c.in-Err.ensures.exact
    ∙ c.refuse_full.ensures.cell around)
