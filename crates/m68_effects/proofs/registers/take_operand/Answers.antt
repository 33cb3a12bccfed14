use Rattle.m68_effects.specs.Operations.{taken_by}
use Rattle.m68_effects.proofs.Tried.{then_by_others}
use Rattle.m68_effects.proofs.registers.take_operand.Goals as goal

pub returns-else-take_usual : goal.returns-else-take_usual
returns-else-take_usual c =
    then_by_others (λ r m. taken_by c.args.op c.args.word r m) _ _ _ _ _ _ _ _ _ _ c.if-take_usual.false c.take_usual.ensures c.take_other.ensures
