use Rattle.std.proofs.Common.{◌≡◌, ◌∙◌, [], ap}
use Rattle.mix_debug.specs.Pasts.{entries_in}
use Rattle.mix_debug.specs.Machines.{earlier}
use Rattle.mix_debug.proofs.Keeping.{earlier-none}
use Rattle.mix_debug.proofs.debug.Debug.new.Goals as goal

pub returns : goal.returns
returns c =
    let kept : earlier c.args.machine (entries_in c.in_ok-history.history.past) ≡ [] = earlier-none c.args.machine (entries_in c.in_ok-history.history.past) c.in_ok-history.ensures.empty in
    ap (λ ks. record { machine = c.args.machine; kept = ks; breaks = c.new-2.result.items }) kept ∙ ap (λ bs. record { machine = c.args.machine; kept = []; breaks = bs }) c.new-2.ensures
