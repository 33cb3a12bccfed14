use Rattle.std.specs.Prelude.{is_ok}
use Rattle.std.proofs.Common.{◌+◌, ◌≤◌, length, arith, ap, sym, subst, ◌∙◌}
use Rattle.big_memory.specs.Memory.{floor_of}
use Rattle.proc_info.specs.Signature.{has_signature}
use Rattle.mixed_machine.specs.Machine.{IsWhole, callers_of}
use Rattle.mode_switch.specs.Views.{crossing, passage}
use Rattle.switch_frame.specs.CallsClauses.{IsPlace}
use Rattle.switch_frame.specs.Records.{Record, isa_of}
use Rattle.switch_frame.specs.Sets.{caller_isa}
use Rattle.mix_engine.proofs.Framing.{entered-now}
use Rattle.mix_engine.proofs.enter.start.Goals as goal

pub prepare-requires-clause-whole : goal.prepare-requires-clause-whole
prepare-requires-clause-whole c = subst (IsWhole c.args.body.now) (sym c.requires.meant.caller) c.requires.whole

pub suspend-requires-clause-whole : goal.suspend-requires-clause-whole
suspend-requires-clause-whole c =
    subst (IsWhole c.prepare.new.body) (c.requires.meant.caller ∙ sym (ap (λ (r : Record). isa_of r.caller) c.requires.held)) c.prepare.ensures.ready.whole

pub suspend-requires-clause-place : goal.suspend-requires-clause-place
suspend-requires-clause-place c =
    subst (λ (r : Record). IsPlace c.prepare.new.body.ram (callers_of c.prepare.new.body) r.kind r.lo r.hi) (sym c.requires.held) c.prepare.ensures.ready.place

pub suspend-requires-clause-depth : goal.suspend-requires-clause-depth
suspend-requires-clause-depth c = c.requires.depth ∙ ap (λ n. n + 1) (ap length (sym c.prepare.ensures.ready.callers))

pub suspend-requires-clause-kind : goal.suspend-requires-clause-kind
suspend-requires-clause-kind c =
    ap (λ (r : Record). caller_isa r.kind) c.requires.held ∙ (c.requires.meant.caller ∙ sym (ap (λ (r : Record). isa_of r.caller) c.requires.held))

pub suspend-requires-clause-signature : goal.suspend-requires-clause-signature
suspend-requires-clause-signature c = ap (λ (r : Record). has_signature r.info) c.requires.held ∙ ap is_ok c.requires.meant.signature

pub returns : goal.returns
returns c =
    let small : floor_of c.args.body.now.ram + c.args.below ≤ c.args.range.0 = c.requires.floor in
    entered-now c.body_laws.ensures c.call_laws.ensures c.args.body.now c.prepare.new.body c.suspend.new.body (caller_isa c.args.call.now.kind) c.prepare.new.active
    (crossing c.args.call.now) c.args.range (passage c.args.active.now c.args.passed.now) _ c.args.below
    c.requires.whole.chain c.requires.place (omega (arith, small)) c.requires.below c.requires.values
    c.requires.held c.prepare.ensures.file c.prepare.ensures.set c.prepare.ensures.ready c.suspend.ensures
