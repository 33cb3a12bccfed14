use Rattle.m68_effects.specs.Operations.{changed_by}
use Rattle.m68_effects.proofs.Tried.{then_by_others}
use Rattle.m68_effects.proofs.changes.change_far.Goals as goal

pub returns-else-change_there : goal.returns-else-change_there
returns-else-change_there c =
    then_by_others (λ r m. changed_by c.args.op 1 c.args.by c.args.word r m) _ _ _ _ _ _ _ _ _ _ c.if-change_there.false c.change_there.ensures c.change_other-else-change_there.ensures
