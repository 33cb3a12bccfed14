use Rattle.m68_isa.specs.declared.op.Op68.TheVariants.{Tst}
use Rattle.m68_effects.specs.laws.Ops.{by_op}
use Rattle.m68_effects.proofs.Tried.{then_by_others}
use Rattle.m68_movement.proofs.single.do_tst.Goals as goal

pub returns-else-tst_usual : goal.returns-else-tst_usual
returns-else-tst_usual c =
    then_by_others (λ r m. by_op Tst r m c.args.word) _ _ _ _ _ _ _ _ _ _ c.if-tst_usual.false c.tst_usual.ensures c.tst_operand.ensures
