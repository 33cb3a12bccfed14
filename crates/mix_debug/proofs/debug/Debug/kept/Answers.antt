use Rattle.std.proofs.Common.{◌∙◌, sym, ap, length}
use Rattle.mix_debug.specs.Pasts.{entries_in}
use Rattle.mix_debug.specs.TrailsClauses.{Trail}
use Rattle.mix_debug.proofs.Keeping.{length-earlier}
use Rattle.mix_debug.proofs.debug.Debug.kept.Goals as goal

pub returns : goal.returns
returns c = c.len.ensures ∙ sym (length-earlier c.self.inside.machine (entries_in c.self.inside.history.past)) ∙ ap (λ (t : Trail). length t.kept) c.self.view_is
