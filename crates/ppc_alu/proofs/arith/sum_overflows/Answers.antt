-- The sum is that of the signed numbers.
use Rattle.std.proofs.Common.{◌≡◌, ap, ◌∙◌, ◌+ℤ◌, pos, to_z, of_z, w64}
use Rattle.std.specs.Int.{from_bool}
use Rattle.std.proofs.lemmas.Int.{to_z-of_z}
use Rattle.ppc_alu.specs.Words.{leaves_word, signed}
use Rattle.ppc_alu.proofs.arith.sum_overflows.Goals as goal

pub returns : goal.returns
returns c =
    let first : to_z w64 (of_z w64 c.number.result) ≡ signed c.args.a = to_z-of_z w64 c.number.result c.number.ensures.fits ∙ c.number.ensures.value in
    let second : to_z w64 (of_z w64 c.number-2.result) ≡ signed c.args.b = to_z-of_z w64 c.number-2.result c.number-2.ensures.fits ∙ c.number-2.ensures.value in
    c.is_out.ensures ∙ ap leaves_word (to_z-of_z w64 c.total.result c.total.ensures.fits ∙ c.total.ensures.value
    ∙ ap (λ x. (x +ℤ to_z w64 (of_z w64 c.number-2.result)) +ℤ pos (from_bool c.args.carry)) first
    ∙ ap (λ x. (signed c.args.a +ℤ x) +ℤ pos (from_bool c.args.carry)) second)
