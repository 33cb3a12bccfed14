use Rattle.std.proofs.Common.{◌≡◌, ◌/◌, ◌%◌, bit_and, ap, ◌∙◌}
use Rattle.std.specs.Int.{rotate_left, w32}
use Rattle.ppc_isa.specs.Fields.{fields_of}
use Rattle.ppc_integer.specs.File.{gpr_of, with_result}
use Rattle.ppc_alu.specs.Masks.{mask_of}
use Rattle.ppc_integer.proofs.Alike.{both_are, ends_with, result_is}
use Rattle.ppc_integer.proofs.rotate.rotate_left.Goals as goal

pub returns : goal.returns
returns c =
    let r = c.args.regs.now in
    let f = fields_of c.args.word in
    let old = c.rotate_mask-rotated.result in
    let word = rotate_left w32 (gpr_of r f.d) (gpr_of r f.b % 32) in
    let mask = mask_of (f.xo / 32) (f.xo % 32) in
    let first : old.0 ≡ word =
    both_are (λ s b. rotate_left w32 (gpr_of r s) (gpr_of r b % 32)) old.0 c.d_of.result c.b_of.result f.d f.b c.rotate_mask-rotated.ensures.rotated c.d_of.ensures.is c.b_of.ensures.is in
    let second : old.1 ≡ mask =
    both_are mask_of old.1 c.mask_begin_of.result c.mask_end_of.result (f.xo / 32) (f.xo % 32) c.rotate_mask-rotated.ensures.mask c.mask_begin_of.ensures.is c.mask_end_of.ensures.is in
    let value : bit_and old.0 old.1 ≡ bit_and word mask = ap (λ v. bit_and v old.1) first ∙ ap (bit_and word) second in
    let changed : c.put_result.new.regs ≡ with_result r f.a f.last (bit_and word mask) =
    c.put_result.ensures ∙ result_is r c.a_of.result f.a c.is_last.result f.last (bit_and old.0 old.1) (bit_and word mask) c.a_of.ensures.is c.is_last.ensures value in
    λ cell m. ends_with c.put_result.new.regs (with_result r f.a f.last (bit_and word mask)) c.finish.new.regs c.finish.result changed c.finish.ensures cell r m
