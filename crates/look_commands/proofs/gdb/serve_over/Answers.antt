-- What the streams tell at first is what the reader has left and the writer holds.
use Rattle.std.proofs.Common.{◌∙◌}
use Rattle.look_commands.proofs.Serving.{over, unbegun, unread}
use Rattle.look_commands.proofs.gdb.serve_over.Goals as goal

pub returns-in_default : goal.returns-in_default
returns-in_default g c = unbegun _ _ _ _ _

pub returns : goal.returns
returns g c =
    over _ _ _ _ _ _ _ _ _ _ _ _ (c.new-input.ensures.left ∙ unread (λ r. g.R.Read.remaining r.now) c.in-Ok.reader _ c.in-Ok.ensures.inner c.in-Ok.ensures.empty c.in-Ok.ensures.capacity)
    c.new-input.ensures.faults c.new-out.ensures.held c.new-out.ensures.faults c.serve_files.ensures
