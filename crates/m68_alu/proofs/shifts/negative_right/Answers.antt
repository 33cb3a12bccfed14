use Rattle.std.proofs.Common.{◌∙◌, ap, sym}
use Rattle.m68_alu.specs.Shifts.{ended}
use Rattle.m68_alu.proofs.Signs.{negative_all}
use Rattle.m68_alu.proofs.shifts.negative_right.Goals as goal

pub returns-clause-value : goal.returns-clause-value
returns-clause-value c =
    let done = rw (c.extend_behind.ensures, c.complement_out-out.ensures, c.modulus.ensures.value, c.complement-zeros.ensures.value) at c.end.ensures in
    done ∙ ap (ended c.args.s) (sym (negative_all c.args.s c.args.v c.args.old c.args.count c.requires.size c.requires.negative))
