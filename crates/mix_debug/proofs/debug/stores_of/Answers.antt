use Rattle.std.proofs.Common.{◌∙◌, subst, sym}
use Rattle.mix_reach.specs.declared.reach.Told.{Told}
use Rattle.mix_reach.specs.Ranges.{IsTold}
use Rattle.mix_reach.specs.laws.Steps.{next_stores}
use Rattle.mix_debug.proofs.debug.stores_of.Goals as goal

pub returns-in-Nowhere : goal.returns-in-Nowhere
returns-in-Nowhere c =
    c.no_stores.ensures ∙ sym (subst (λ (t : Told). IsTold t (next_stores c.args.machine.now.body.ram c.args.machine.now.active)) c.in-Nowhere.is c.told.ensures)

pub returns-in-There : goal.returns-in-There
returns-in-There c =
    c.plain.ensures ∙ sym (subst (λ (t : Told). IsTold t (next_stores c.args.machine.now.body.ram c.args.machine.now.active)) c.in-There.is c.told.ensures)
