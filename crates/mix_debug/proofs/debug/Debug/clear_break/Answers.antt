use Rattle.std.proofs.Common.{◌≡◌, ◌∙◌, not, ap, rules}
use Rattle.std.specs.Prelude.{◌==◌, filter}
use Rattle.arrayvec.proofs.ArrayVecLemmas.{filter-from_retain}
use Rattle.mix_debug.specs.Machines.{earlier}
use Rattle.mix_debug.specs.Pasts.{entries_in}
use Rattle.mix_debug.specs.TrailsClauses.{Trail}
use Rattle.mix_debug.proofs.debug.Debug.clear_break.Goals as goal

pub returns-clause-after : goal.returns-clause-after
returns-clause-after c =
    let left : c.retain.new.self.items ≡ filter (λ b. not (b == c.args.a)) c.self.inside.breaks.items = filter-from_retain _ _ _ (λ x b f' y called. search rules) _ _ c.retain.ensures.filtered in
    ap (λ bs. record { machine = c.self.inside.machine; kept = earlier c.self.inside.machine (entries_in c.self.inside.history.past); breaks = bs }) left
    ∙ ap (λ (t : Trail). record t { breaks = filter (λ b. not (b == c.args.a)) t.breaks }) c.self.view_is
