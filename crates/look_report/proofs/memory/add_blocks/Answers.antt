use Rattle.look_report.specs.Blocks.{block_line}
use Rattle.look_report.proofs.Blocks.{one-more}
use Rattle.look_report.proofs.memory.add_blocks.Goals as goal

pub loop-block-preserved : goal.loop-block-preserved
loop-block-preserved c =
    one-more block_line c.loop-block.text.items c.add_block.new.text.items _ c.args.blocks.now c.loop-block.block-index _ c.loop-block-test.true c.in_ok-add_block.ensures c.loop-block.invariant
