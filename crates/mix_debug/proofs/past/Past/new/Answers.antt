use Rattle.std.proofs.Common.{true}
use Rattle.mix_debug.specs.declared.head.FrameChange.TheVariants.{Stays as FrameStays}
use Rattle.mix_debug.specs.declared.head.BlockChange.TheVariants.{Stays as BlockStays}
use Rattle.mix_debug.specs.declared.past.Past.{Past}
use Rattle.mix_debug.proofs.Holding.{emptied}
use Rattle.mix_debug.proofs.past.Past.new.Goals as goal

pub returns-clause-past : goal.returns-clause-past
returns-clause-past c =
    let p : Past = record { ready = record { file = c.args.file.now; top = 0; frame = FrameStays; block = BlockStays; runs = 0; olds = 0 }; heads = c.in_ok-with_capacity.field-0; spans = c.in_ok-with_capacity-2.field-0; olds = c.in_ok-with_capacity-3.field-0; trimmed = true } in
    (emptied p c.in_ok-with_capacity.ensures c.in_ok-with_capacity-2.ensures c.in_ok-with_capacity-3.ensures).past

pub returns-clause-empty : goal.returns-clause-empty
returns-clause-empty c =
    let p : Past = record { ready = record { file = c.args.file.now; top = 0; frame = FrameStays; block = BlockStays; runs = 0; olds = 0 }; heads = c.in_ok-with_capacity.field-0; spans = c.in_ok-with_capacity-2.field-0; olds = c.in_ok-with_capacity-3.field-0; trimmed = true } in
    (emptied p c.in_ok-with_capacity.ensures c.in_ok-with_capacity-2.ensures c.in_ok-with_capacity-3.ensures).entries_are
