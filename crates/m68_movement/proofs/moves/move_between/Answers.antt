use Rattle.std.proofs.Common.{◌∙◌, sym, refl}
use Rattle.m68_movement.proofs.Pairs.{second_bad, first_refused}
use Rattle.m68_movement.proofs.moves.move_between.Goals as goal

pub returns-then-not-is_second_good : goal.returns-then-not-is_second_good
returns-then-not-is_second_good c =
    second_bad _ _ _ _ _ _ _ _ _ _ (sym c.is_second_good.ensures ∙ c.if-not-is_second_good.true) (c.stop.ensures c.args.regs.now c.args.ram.now)

pub returns-in_default : goal.returns-in_default
returns-in_default c =
    (first_refused _ _ _ _ _ _ (sym c.is_second_good.ensures ∙ c.if-not-is_second_good.false) c.in_default.ensures.is.0, c.in_default.ensures.is.1, refl)

pub write-requires-clause-alterable : goal.write-requires-clause-alterable
write-requires-clause-alterable c = c.requires.alterable
