use Rattle.std.proofs.Common.{◌≡◌, ◌<◌, ◌∙◌, false, ap, sym}
use Rattle.mix_bits.specs.Sizes.{truncated}
use Rattle.mix_bits.specs.Signs.{half, is_negative}
use Rattle.m68_alu.specs.Shifts.{ended}
use Rattle.m68_alu.proofs.Signs.{below-half, plain_all}
use Rattle.m68_alu.proofs.Zeros.{right_all}
use Rattle.m68_alu.proofs.shifts.sign_right.Goals as goal

pub returns-else-is_negative-clause-value : goal.returns-else-is_negative-clause-value
returns-else-is_negative-clause-value c =
    let is : is_negative c.args.s (truncated c.args.v c.args.s) ≡ false = rw (← c.trunc-from.ensures) (sym c.is_negative.ensures ∙ c.if-is_negative.false) in
    let low : truncated c.args.v c.args.s < half c.args.s = below-half c.args.s (truncated c.args.v c.args.s) is in
    c.zeros_right.ensures.value ∙ ap (ended c.args.s) (right_all c.args.s c.args.v c.args.old c.args.count ∙ sym (plain_all c.args.s c.args.v c.args.old c.args.count low))
