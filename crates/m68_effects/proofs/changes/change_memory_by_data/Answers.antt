use Rattle.m68_effects.specs.Operations.{changed_by_data}
use Rattle.m68_effects.proofs.Tried.{then_by_others}
use Rattle.m68_effects.proofs.changes.change_memory_by_data.Goals as goal

pub returns-then-change_usual_by_data : goal.returns-then-change_usual_by_data
returns-then-change_usual_by_data c = rw c.if-change_usual_by_data.true at c.change_usual_by_data.ensures

pub returns-else-change_usual_by_data : goal.returns-else-change_usual_by_data
returns-else-change_usual_by_data c =
    then_by_others (λ r m. changed_by_data c.args.op c.args.word r m) _ _ _ _ _ _ _ _ _ _ c.if-change_usual_by_data.false c.change_usual_by_data.ensures c.change_other_by_data.ensures
