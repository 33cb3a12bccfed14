use Rattle.std.proofs.Common.{◌≡◌, ◌+◌, ◌-◌, ◌^◌, ◌<◌, ◌≤◌, length, arith, ap, sym, ◌∙◌}
use Rattle.mixed_machine.specs.Machine.{callers_of}
use Rattle.mode_switch.specs.Views.{crossing, passage}
use Rattle.switch_frame.specs.Sets.{caller_isa, frame_size}
use Rattle.mix_engine.proofs.Framing.{callers-are, held-is, links-are}
use Rattle.mix_engine.proofs.enter.hold.Goals as goal

pub depth-requires : goal.depth-requires
depth-requires c = links-are c.args.body.now c.requires.whole.chain

pub overflow_add-result : goal.overflow_add-result
overflow_add-result c =
    let count : c.depth.result ≡ length (callers_of c.args.body.now) = c.depth.ensures ∙ ap length (sym (callers-are c.args.body.now)) in
    let few : length (callers_of c.args.body.now) < 256 = c.requires.place.few in
    omega (arith, count, few)

pub returns-clause-held : goal.returns-clause-held
returns-clause-held c passed =
    let ram = c.requires.whole.chain.links.ram in
    let end : c.args.range.1 ≤ length c.args.body.now.ram.bytes = c.requires.place.within in
    let size : c.args.range.1 ≡ c.args.range.0 + frame_size (caller_isa c.args.call.now.kind) = c.requires.place.size in
    let most : length c.args.body.now.ram.bytes ≤ 16777216 = ram.most in
    let near : c.args.range.0 - c.args.below ≤ 2 ^ 31 = omega (arith, end, size, most) in
    held-is (crossing c.args.call.now) c.args.range (passage c.args.active.now passed) c.args.below c.kept_selector.result c.address.result c.wanted_sp.result (c.depth.result + 1) c.requires.below c.kept_selector.ensures c.address.ensures (c.wanted_sp.ensures.exact near)

pub returns-clause-depth : goal.returns-clause-depth
returns-clause-depth c = ap (λ n. n + 1) (c.depth.ensures ∙ ap length (sym (callers-are c.args.body.now)))
