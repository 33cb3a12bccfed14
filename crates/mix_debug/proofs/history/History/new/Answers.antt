use Rattle.std.proofs.Common.{◌∙◌}
use Rattle.mix_debug.proofs.Keeping.{no-step}
use Rattle.mix_debug.proofs.history.History.new.Goals as goal

pub returns-clause-history : goal.returns-clause-history
returns-clause-history c =
    no-step c.args.machine.now (record { copy = c.in_ok-from_slice.field-0; blocks = c.copy_blocks.new.blocks; past = c.in_ok-new.field-0 }) c.requires
    (c.in_ok-from_slice.ensures.items ∙ c.bytes.ensures.is) c.copy_blocks.ensures.blocks c.copy_blocks.ensures.heap c.copy_blocks.ensures.room c.in_ok-new.ensures.past c.in_ok-new.ensures.empty
