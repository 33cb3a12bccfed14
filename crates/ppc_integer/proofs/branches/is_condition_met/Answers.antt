use Rattle.std.proofs.Common.{◌≡◌, ◌-◌, ◌/◌, ◌%◌, ◌==◌, arith, ap, ◌∙◌}
use Rattle.mix_bits.specs.Digits.{digit_of}
use Rattle.ppc_integer.proofs.Shifted.{below-two, same-bits}
use Rattle.ppc_integer.proofs.branches.is_condition_met.Goals as goal

pub returns : goal.returns
returns c =
    let word = c.args.word in
    let cr = c.args.cr in
    let wanted = digit_of (digit_of word 21 5) 3 1 in
    let held = digit_of cr (31 - digit_of word 16 5) 1 in
    let is : c.condition_at.result ≡ held = c.condition_at.ensures ∙ ap (λ a. digit_of cr (31 - a) 1) c.a_of.ensures.is in
    let asked : word / 16777216 % 2 ≡ wanted = omega arith in
    ap (λ v. c.condition_at.result == v) asked ∙ (ap (λ v. v == wanted) is ∙ same-bits held wanted (below-two _) (below-two _))
