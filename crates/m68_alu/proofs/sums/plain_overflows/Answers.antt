use Rattle.std.proofs.Common.{◌≡◌, ◌%◌, ◌^◌, ◌||◌, false, ap, ◌∙◌}
use Rattle.std.specs.Prelude.{int_lt}
use Rattle.std.specs.Int.{w64, cast_signed, cast_unsigned}
use Rattle.std.proofs.lemmas.Int.{to_z-of_z}
use Rattle.mix_bits.specs.Sizes.{signed_of}
use Rattle.mix_bits.specs.Signs.{leaves}
use Rattle.m68_alu.specs.Sums.{signed_total}
use Rattle.m68_alu.proofs.Lows.{low_leaves}
use Rattle.m68_alu.proofs.sums.plain_overflows.Goals as goal

pub returns : goal.returns
returns c =
    let s = c.args.s in
    let number = c.total-number.result in
    let plain : cast_signed w64 (cast_unsigned w64 number) ≡ number = to_z-of_z w64 number c.total-number.ensures.fits in
    let held : cast_signed w64 (cast_unsigned w64 c.signed-3.result) ≡ c.signed-3.result = to_z-of_z w64 c.signed-3.result c.signed-3.ensures.fits in
    let cut : c.low_of.result ≡ cast_unsigned w64 number % 2 ^ 32 = rw plain at c.low_of.ensures in
    let low : c.signed-3.result ≡ signed_of c.low_of.result s = c.signed-3.ensures.value in
    let first : c.signed.result ≡ signed_of c.args.d s = c.signed.ensures.value in
    let second : c.signed-2.result ≡ signed_of c.args.r s = c.signed-2.ensures.value in
    let left : cast_signed w64 (cast_unsigned w64 c.signed.result) ≡ c.signed.result = to_z-of_z w64 c.signed.result c.signed.ensures.fits in
    let right : cast_signed w64 (cast_unsigned w64 c.signed-2.result) ≡ c.signed-2.result = to_z-of_z w64 c.signed-2.result c.signed-2.ensures.fits in
    let sum : number ≡ signed_total c.signed.result c.signed-2.result false = rw (left, right) at c.total-number.ensures.value in
    let tells : c.differ.result ≡ (int_lt number c.signed-3.result || int_lt c.signed-3.result number) = rw (plain, held) at c.differ.ensures in
    let same : c.differ.result ≡ leaves s number = rw (low, cut) at tells ∙ low_leaves s number c.requires c.total-number.ensures.low c.total-number.ensures.high in
    same ∙ ap (leaves s) (rw (first, second) at sum)
