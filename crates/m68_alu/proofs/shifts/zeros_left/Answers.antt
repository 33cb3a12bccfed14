use Rattle.std.proofs.Common.{◌∙◌, ap}
use Rattle.m68_alu.specs.Shifts.{ended}
use Rattle.m68_alu.proofs.Zeros.{left_wide}
use Rattle.m68_alu.proofs.shifts.zeros_left.Goals as goal

pub returns-clause-value : goal.returns-clause-value
returns-clause-value c =
    let done = rw (c.extend_behind.ensures, c.modulus.ensures.value, c.modulus-2.ensures.value) at c.end.ensures in
    let near = rw c.trunc.ensures at c.moved_far-wide.ensures.near in
    done ∙ ap (ended c.args.s) (left_wide c.args.s c.args.v c.moved_far-wide.result c.args.old c.args.count c.requires.size near c.moved_far-wide.ensures.far)
