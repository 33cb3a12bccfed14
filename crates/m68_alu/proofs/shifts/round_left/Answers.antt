use Rattle.std.proofs.Common.{◌∙◌, ap, sym}
use Rattle.m68_alu.specs.Shifts.{ended}
use Rattle.m68_alu.proofs.Rotations.{ro_left_all}
use Rattle.m68_alu.proofs.shifts.round_left.Goals as goal

pub returns-clause-value : goal.returns-clause-value
returns-clause-value c =
    let done = rw (c.out_behind.ensures, c.rotated-value.ensures.is, c.from.ensures, c.trunc.ensures, c.bits-width.ensures.value) at c.end.ensures in
    done ∙ ap (ended c.args.s) (sym (ro_left_all c.args.s c.args.v c.args.old c.args.count c.requires.size))
