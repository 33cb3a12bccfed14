use Rattle.std.proofs.Common.{◌≡◌, ◌+◌, ◌*◌, ◌-◌, ◌%◌, ◌∙◌, ap, sym}
use Rattle.mix_bits.specs.Sizes.{bytes_of}
use Rattle.m68_alu.specs.Shifts.{ended}
use Rattle.m68_alu.proofs.Rotations.{more-bits, rest-back, rox_right_all}
use Rattle.m68_alu.proofs.shifts.through_right.Goals as goal

pub returns-clause-value : goal.returns-clause-value
returns-clause-value c =
    let w = 8 * bytes_of c.args.s + 1 in
    let back : 8 * bytes_of c.args.s + 1 - (8 * bytes_of c.args.s + 1 - c.args.count % (8 * bytes_of c.args.s + 1)) ≡ c.args.count % (8 * bytes_of c.args.s + 1) = rest-back w c.args.count (more-bits c.args.s) in
    let done = rw (c.rotated.ensures.is, c.with_extend.ensures.is, c.bits-width.ensures.value, back) at c.end_through.ensures.value in
    done ∙ ap (ended c.args.s) (sym (rox_right_all c.args.s c.args.v c.args.old c.args.count c.requires.size))
