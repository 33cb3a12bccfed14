use Rattle.std.proofs.Common.{◌∙◌, sym, refl}
use Rattle.big_memory.specs.declared.steps.Did.TheVariants.{Next}
use Rattle.m68_movement.proofs.Ways.{by_operands}
use Rattle.m68_movement.proofs.moves.move_out_other.Goals as goal
use Rattle.m68_movement.proofs.moves.move_out_other.Goals.{then-mode_of-eq0+else-move_out_far, else-mode_of-eq0}

pub returns-then-move_out_far : goal.returns-then-move_out_far
returns-then-move_out_far g c =
    by_operands g.W.Width.SIZE g.W.Width.SIZE c.args.word 0 c.lower_of-from.result c.move_mode_of.result c.upper_of.result c.args.regs.now c.move_out_far.new.regs c.args.ram.now c.move_out_far.new.ram Next c.move_out_far.new.fault refl (sym c.if-mode_of-eq0.true ∙ c.mode_of.ensures.is) c.lower_of-from.ensures.is c.move_mode_of.ensures.is c.upper_of.ensures.is (rw c.if-move_out_far.true at c.move_out_far.ensures)

pub returns : goal.returns
returns g c = elim c.if-mode_of-eq0.branch [
  | then-mode_of-eq0+else-move_out_far w ↦
      let same = rw w.if-move_out_far.false at w.move_out_far.ensures in
      rw (w.regs-is, w.ram-is, same.0, same.1) at c.move_any.ensures
  | else-mode_of-eq0 w ↦ rw (w.regs-is, w.ram-is) at c.move_any.ensures
]
