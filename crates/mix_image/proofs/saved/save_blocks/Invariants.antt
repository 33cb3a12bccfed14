use Rattle.std.proofs.Common.{◌-◌, ◌≤◌, length, take}
use Rattle.big_memory.specs.Numbers.{bytes_of_longs}
use Rattle.mix_image.specs.Spelling.{block_longs}
use Rattle.mix_image.proofs.Saving.{IsSaving}
use Rattle.mix_image.proofs.saved.save_blocks.Given as goal

abbrev pub invariant-each : goal.invariant-each
invariant-each g l =
    (l.done ≤ length l.blocks)
    × IsSaving (g.K.Keeper.kept l.initial.keep) (g.K.Keeper.kept l.keep) (g.K.Keeper.faults l.initial.keep) (g.K.Keeper.faults l.keep) l.name (bytes_of_longs (block_longs (take l.done l.blocks)))

abbrev pub decreases-each : goal.decreases-each
decreases-each g l = length l.blocks - l.done
