use Rattle.std.proofs.Common.{refl}
use Rattle.mix_debug.proofs.Undoing.{parts-put}
use Rattle.mix_debug.proofs.undo.write_front.Goals as goal

pub returns : goal.returns
returns c =
    parts-put c.args.span.at c.args.span.count c.min-first.result c.as_slices.result.0.now c.as_slices.result.1.now c.args.olds.now.items _ _ c.args.ram.now c.fix.new.self c.fix-2.new.self
    c.as_slices.ensures c.min-first.ensures c.requires.whole c.requires.inside refl refl c.fix.ensures c.fix-2.ensures
