use Rattle.m68_isa.specs.declared.op.Op68.TheVariants.{Clr}
use Rattle.m68_effects.specs.laws.Ops.{by_op}
use Rattle.m68_effects.proofs.Tried.{then_by_others}
use Rattle.m68_movement.proofs.single.clr_elsewhere.Goals as goal

pub clr_operand-requires : goal.clr_operand-requires
clr_operand-requires c = c.requires

pub returns-then-lower-gt1 : goal.returns-then-lower-gt1
returns-then-lower-gt1 c = c.clr_operand.ensures

pub clr_operand-requires-else-clear_there : goal.clr_operand-requires-else-clear_there
clr_operand-requires-else-clear_there c = c.requires

pub returns-then-clear_there : goal.returns-then-clear_there
returns-then-clear_there c = rw c.if-clear_there.true at c.clear_there.ensures

pub returns-else-clear_there : goal.returns-else-clear_there
returns-else-clear_there c =
    then_by_others (λ r m. by_op Clr r m c.args.word) _ _ _ _ _ _ _ _ _ _ c.if-clear_there.false c.clear_there.ensures c.clr_operand-else-clear_there.ensures
