use Rattle.std.proofs.Common.{◌≡◌, ◌*◌, ◌-◌, ◌%◌, ◌∙◌, ap, sym}
use Rattle.mix_bits.specs.Sizes.{bytes_of}
use Rattle.m68_alu.specs.Shifts.{ended}
use Rattle.m68_alu.proofs.Rotations.{rest-back, ro_right_all, some-bits}
use Rattle.m68_alu.proofs.shifts.round_right.Goals as goal

pub returns-clause-value : goal.returns-clause-value
returns-clause-value c =
    let w = 8 * bytes_of c.args.s in
    let back : 8 * bytes_of c.args.s - (8 * bytes_of c.args.s - c.args.count % (8 * bytes_of c.args.s)) ≡ c.args.count % (8 * bytes_of c.args.s) = rest-back w c.args.count (some-bits c.args.s c.requires.size) in
    let done = rw (c.out_behind.ensures, c.is_negative.ensures, c.rotated-value.ensures.is, c.from.ensures, c.trunc.ensures, c.bits-width.ensures.value, back) at c.end.ensures in
    done ∙ ap (ended c.args.s) (sym (ro_right_all c.args.s c.args.v c.args.old c.args.count c.requires.size))
