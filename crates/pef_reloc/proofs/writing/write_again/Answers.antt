use Rattle.std.proofs.Common.{◌∙◌, ap, take, ◌-◌, ◌+◌, ◌++◌, length, arith}
use Rattle.pef_reloc.specs.Lists.{times}
use Rattle.pef_reloc.proofs.Written.{done_times, left_times}
use Rattle.pef_reloc.proofs.writing.write_again.Goals as goal

pub loop-turn-preserved : goal.loop-turn-preserved
loop-turn-preserved c =
    let n = c.from-turns.result + 1 in
    let k = c.loop-turn._turn in
    record {
      done = ap (λ to. take (c.loop-turn.at + length c.args.block.now) to ++ times (n - (k + 1)) c.args.block.now) c.write_block.ensures
          ∙ done_times n k c.loop-turn.at c.args.block.now c.loop-turn.to _ c.loop-turn-test.true c.loop-turn.invariant.left c.loop-turn.invariant.done;
      left = left_times n k c.loop-turn.at (length c.write_block.new.to) c.args.block.now c.loop-turn-test.true (omega arith);
    }
