use Rattle.std.proofs.Common.{rules, ◌≡◌, ◌-◌, ◌+◌, None, Some, arith, ap, sym, ◌∙◌}
use Rattle.big_memory.specs.Memory.{refusal}
use Rattle.big_memory.specs.StoresWhole.{first_refusal, longs_refusal}
use Rattle.big_memory.proofs.Longs.{probe-err, probe-ok, probed, long-none}
use Rattle.mix_bits.specs.Addresses.{onward}
use Rattle.big_memory.proofs.ram.Ram.probe_each.Goals as goal

pub returns-in_err-probe : goal.returns-in_err-probe
returns-in_err-probe c =
    let m = c.args.self.now in
    let here : refusal m c.loop-k.at 4 ≡ Some c.in_err-probe.field-0.0 = probe-err _ _ _ c.probe.ensures c.in_err-probe.was in
    let all : longs_refusal m c.args.a c.args.count ≡ Some c.in_err-probe.field-0.0 =
    c.loop-k.invariant ∙ probed m c.loop-k.at (c.args.count - c.loop-k._k) (omega arith)
    ∙ ap (λ r. first_refusal r (longs_refusal m (onward c.loop-k.at 4) (c.args.count - c.loop-k._k - 1))) here in
    rw all (search rules)

pub loop-k-preserved : goal.loop-k-preserved
loop-k-preserved c =
    let m = c.args.self.now in
    let here : refusal m c.loop-k.at 4 ≡ None = probe-ok _ _ c.probe.ensures c.in_ok-probe.was in
    c.loop-k.invariant ∙ probed m c.loop-k.at (c.args.count - c.loop-k._k) (omega arith)
    ∙ ap (λ r. first_refusal r (longs_refusal m (onward c.loop-k.at 4) (c.args.count - c.loop-k._k - 1))) here
    ∙ ap (λ n. longs_refusal m (onward c.loop-k.at 4) n) (let less : c.args.count - c.loop-k._k - 1 ≡ c.args.count - (c.loop-k._k + 1) = omega arith in less)
    ∙ ap (λ b. longs_refusal m b (c.args.count - (c.loop-k._k + 1))) (sym c.onward-at.ensures)

pub returns : goal.returns
returns c =
    let m = c.args.self.now in
    let none : c.args.count - c.loop-k._k ≡ 0 = omega arith in
    rw (c.loop-k.invariant ∙ ap (λ n. longs_refusal m c.loop-k.at n) none ∙ long-none m c.loop-k.at) (search rules)
