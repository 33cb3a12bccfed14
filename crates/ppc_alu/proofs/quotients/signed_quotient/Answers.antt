-- The quotient is that of the signed numbers.
use Rattle.std.proofs.Common.{◌≡◌, ap, ◌∙◌, int_div, arith, to_z, of_z}
use Rattle.std.specs.Int.{cast_unsigned, w32}
use Rattle.std.proofs.lemmas.Int.{to_z-of_z}
use Rattle.ppc_alu.specs.Words.{signed}
use Rattle.ppc_alu.proofs.SignedLemmas.{signed-is, fits-cast}
use Rattle.ppc_alu.proofs.quotients.signed_quotient.Goals as goal

pub returns : goal.returns
returns c =
    let first : to_z w32 (of_z w32 c.cast_signed.result) ≡ signed c.args.a = to_z-of_z w32 c.cast_signed.result (fits-cast _ _ (omega arith) c.cast_signed.ensures) ∙ c.cast_signed.ensures ∙ signed-is c.args.a (omega arith) in
    let second : to_z w32 (of_z w32 c.cast_signed-2.result) ≡ signed c.args.b = to_z-of_z w32 c.cast_signed-2.result (fits-cast _ _ (omega arith) c.cast_signed-2.ensures) ∙ c.cast_signed-2.ensures ∙ signed-is c.args.b (omega arith) in
    c.cast_unsigned.ensures ∙ ap (cast_unsigned w32) (to_z-of_z w32 c.truncated.result c.truncated.ensures.fits ∙ c.truncated.ensures.value
    ∙ ap (λ x. int_div x (to_z w32 (of_z w32 c.cast_signed-2.result))) first
    ∙ ap (λ x. int_div (signed c.args.a) x) second)
