use Rattle.std.proofs.Common.{◌≡◌, ◌++◌, drop}
use Rattle.std.specs.List.{flat_map}
use Rattle.look_report.specs.Blocks.{block_line}
use Rattle.look_report.proofs.memory.add_blocks.Given as goal

-- what is there and the lines of the blocks that are left are those of all
abbrev pub invariant-loop-block : goal.invariant-loop-block
invariant-loop-block l = l.text.items ++ flat_map block_line (drop l.block-index l.blocks) ≡ l.fn.text.items ++ flat_map block_line l.blocks
