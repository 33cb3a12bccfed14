use Rattle.std.proofs.Common.{◌≡◌, ◌+◌, ◌-◌, ◌≤◌, length, arith, ap, sym, ◌∙◌}
use Rattle.big_memory.specs.Memory.{floor_of, with_bytes}
use Rattle.switch_frame.specs.Sets.{callee_isa, caller_isa}
use Rattle.mode_switch.specs.Callee.{stack_of}
use Rattle.mode_switch.specs.Views.{args_of, crossing}
use Rattle.mode_switch.specs.Wanted.{passed_selector}
use Rattle.mix_engine.proofs.Framing.{readied}
use Rattle.mix_engine.proofs.frames.prepare.Goals as goal

pub returns-clause-ready : goal.returns-clause-ready
returns-clause-ready c =
    let body = c.args.body.now in
    let call = crossing c.args.call.now in
    let set = callee_isa call.kind in
    let values = args_of c.args.passed.now in
    let lo = c.args.range.0 in
    let stack = stack_of set call.sig (passed_selector call) values in
    let small : floor_of body.ram + c.args.below ≤ lo = c.requires.floor in
    let long : length stack ≡ c.args.below = c.call_laws.ensures.stacks set call.sig (passed_selector call) values c.requires.values ∙ sym c.requires.below in
    readied c.body_laws.ensures c.call_laws.ensures body c.deliver.new.ram (caller_isa call.kind) call.kind lo c.args.range.1 (lo - c.args.below) stack
    c.requires.whole c.requires.place (omega (arith, small)) (omega (arith, small, long))
    (c.deliver.ensures.memory ∙ ap (λ n. with_bytes (lo - n) stack body.ram) (sym c.requires.below))
