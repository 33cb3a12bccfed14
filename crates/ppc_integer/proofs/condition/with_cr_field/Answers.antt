use Rattle.std.proofs.Common.{rules, ◌+◌, ◌-◌, ◌*◌, ◌<◌, ◌^◌, arith, sym, subst}
use Rattle.mix_bits.specs.Digits.{digit_replaced}
use Rattle.ppc_integer.proofs.FieldLemmas.{exchanged, exchanged_fits}
use Rattle.ppc_integer.proofs.condition.with_cr_field.Goals as goal

pub returns : goal.returns
returns c =
    rw (c.from.ensures, c.from-2.ensures, c.cr_field.ensures.value, c.power-place.ensures, c.from-3.ensures)
    (exchanged c.args.cr (28 - 4 * c.args.field) c.args.bits)

pub overflow_cast-result : goal.overflow_cast-result
overflow_cast-result c =
    let fits : digit_replaced c.args.cr (28 - 4 * c.args.field) 4 c.args.bits < 2 ^ 32 =
    exchanged_fits c.args.cr (28 - 4 * c.args.field) (4 * c.args.field) c.args.bits (omega (arith, c.requires.field)) c.ranges.cr.fits c.requires.bits in
    let below : c.from.result - c.from-2.result * c.power-place.result + c.from-3.result * c.power-place.result < 2 ^ 32 = subst (λ n. n < 2 ^ 32) (sym (returns c)) fits in
    search rules
