use Rattle.std.proofs.Common.{◌∙◌, ap, sym}
use Rattle.m68_alu.specs.Shifts.{ended}
use Rattle.m68_alu.proofs.Zeros.{right_all}
use Rattle.m68_alu.proofs.shifts.zeros_right.Goals as goal

pub returns-clause-value : goal.returns-clause-value
returns-clause-value c =
    let done = rw (c.extend_behind.ensures, c.from-from.ensures, c.trunc.ensures) at c.end.ensures in
    done ∙ ap (ended c.args.s) (sym (right_all c.args.s c.args.v c.args.old c.args.count))
