use Rattle.m68_effects.specs.Operations.{changed_by}
use Rattle.m68_effects.proofs.Tried.{then_by_others}
use Rattle.m68_effects.proofs.changes.change_operand.Goals as goal

pub returns-else-change_usual : goal.returns-else-change_usual
returns-else-change_usual c =
    then_by_others (λ r m. changed_by c.args.op 1 c.args.by c.args.word r m) _ _ _ _ _ _ _ _ _ _ c.if-change_usual.false c.change_usual.ensures c.change_other.ensures
