use Rattle.std.proofs.Common.{◌∙◌, ap, sym}
use Rattle.m68_alu.specs.Shifts.{ended}
use Rattle.m68_alu.proofs.Rotations.{rox_left_all}
use Rattle.m68_alu.proofs.shifts.through_left.Goals as goal

pub returns-clause-value : goal.returns-clause-value
returns-clause-value c =
    let done = rw (c.rotated.ensures.is, c.with_extend.ensures.is, c.bits-width.ensures.value) at c.end_through.ensures.value in
    done ∙ ap (ended c.args.s) (sym (rox_left_all c.args.s c.args.v c.args.old c.args.count c.requires.size))
