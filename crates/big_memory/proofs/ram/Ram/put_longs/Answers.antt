use Rattle.std.proofs.Common.{arith, ap, sym, ◌∙◌, ◌+◌, drop, length, get_or}
use Rattle.big_memory.specs.Memory.{stored}
use Rattle.big_memory.specs.StoresWhole.{longs_refusal, with_longs}
use Rattle.big_memory.proofs.Longs.{put-next, put-end, here-none, rest-none}
use Rattle.mix_bits.specs.declared.size.Size.TheVariants.{Four}
use Rattle.big_memory.proofs.ram.Ram.put_longs.Goals as goal

pub put-requires : goal.put-requires
put-requires c = here-none c.loop-value.self c.loop-value.at c.loop-value.value-index c.args.values.now c.loop-value-test.true c.loop-value.invariant.none

pub loop-value-preserved : goal.loop-value-preserved
loop-value-preserved c =
    let vs = c.args.values.now in
    let i = c.loop-value.value-index in
    let next = c.onward-at.ensures in
    record {
      all = c.loop-value.invariant.all ∙ put-next c.loop-value.self c.loop-value.at i vs c.loop-value-test.true
          ∙ ap (λ b. with_longs b (drop (i + 1) vs) (stored c.loop-value.self c.loop-value.at Four (get_or vs i 0))) (sym next)
          ∙ ap (λ m. with_longs c.onward-at.result (drop (i + 1) vs) m) (sym c.put.ensures);
      none = ap (λ m. longs_refusal m c.onward-at.result (length (drop (i + 1) vs))) c.put.ensures
          ∙ ap (λ b. longs_refusal (stored c.loop-value.self c.loop-value.at Four (get_or vs i 0)) b (length (drop (i + 1) vs))) next
          ∙ rest-none c.loop-value.self c.loop-value.at i (get_or vs i 0) vs c.loop-value-test.true c.loop-value.invariant.none;
    }

pub returns : goal.returns
returns c = sym (c.loop-value.invariant.all ∙ put-end c.loop-value.self c.loop-value.at c.loop-value.value-index c.args.values.now (omega arith))
