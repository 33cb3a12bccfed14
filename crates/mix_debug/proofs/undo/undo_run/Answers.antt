use Rattle.std.proofs.Common.{◌-◌, ◌∙◌, ap, length}
use Rattle.circular_buffer.specs.Buffer.{buffer}
use Rattle.mix_debug.proofs.Undoing.{front-dropped}
use Rattle.mix_debug.proofs.undo.undo_run.Goals as goal

pub returns-clause-olds : goal.returns-clause-olds
returns-clause-olds c =
    c.truncate_front.ensures
    ∙ ap (λ xs. buffer xs c.args.olds.now.capacity) (front-dropped c.args.span.count (c.len.result - c.args.span.count) c.args.olds.now.items c.requires.whole (ap (λ n. n - c.args.span.count) c.len.ensures.len))
