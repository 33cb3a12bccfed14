use Rattle.std.proofs.Common.{◌≡◌, ◌/◌, ◌%◌, ap, sym, ◌∙◌}
use Rattle.std.specs.Int.{rotate_left, w32}
use Rattle.ppc_isa.specs.Fields.{fields_of}
use Rattle.ppc_integer.specs.File.{gpr_of, with_result}
use Rattle.ppc_alu.specs.Masks.{mask_of}
use Rattle.ppc_integer.specs.Rotate.{inserted}
use Rattle.ppc_integer.specs.Rotate.{masked}
use Rattle.ppc_integer.proofs.Alike.{both_are, ends_with, result_is}
use Rattle.ppc_integer.proofs.rotate.rotate_left_immediate.Goals as goal
use Rattle.ppc_integer.proofs.rotate.rotate_left_immediate.Goals.{in-Insert, in-Clear}

pub returns : goal.returns
returns c =
    let r = c.args.regs.now in
    let f = fields_of c.args.word in
    let outside = c.args.outside in
    let old = c.rotate_mask-rotated.result in
    let word = rotate_left w32 (gpr_of r f.d) f.b in
    let mask = mask_of (f.xo / 32) (f.xo % 32) in
    let first : old.0 ≡ word =
    both_are (λ s n. rotate_left w32 (gpr_of r s) n) old.0 c.d_of.result c.shift_of.result f.d f.b c.rotate_mask-rotated.ensures.rotated c.d_of.ensures.is c.shift_of.ensures.is in
    let second : old.1 ≡ mask =
    both_are mask_of old.1 c.mask_begin_of.result c.mask_end_of.result (f.xo / 32) (f.xo % 32) c.rotate_mask-rotated.ensures.mask c.mask_begin_of.ensures.is c.mask_end_of.ensures.is in
    let chosen : c.match-outside.value ≡ masked outside old.1 old.0 (gpr_of r f.a) =
    elim c.match-outside.branch [
      | in-Insert w ↦ w.value-is ∙ w.insert-value.ensures ∙ ap (λ a. inserted old.1 old.0 (gpr_of r a)) w.a_of.ensures.is ∙ sym (ap (λ o. masked o old.1 old.0 (gpr_of r f.a)) w.in-Insert.is)
      | in-Clear w ↦ w.value-is ∙ sym (ap (λ o. masked o old.1 old.0 (gpr_of r f.a)) w.in-Clear.is)
    ] in
    let value : c.match-outside.value ≡ masked outside mask word (gpr_of r f.a) =
    chosen ∙ ap (λ v. masked outside old.1 v (gpr_of r f.a)) first ∙ ap (λ k. masked outside k word (gpr_of r f.a)) second in
    let changed : with_result r c.a_of-2.result c.is_last.result c.match-outside.value ≡ with_result r f.a f.last (masked outside mask word (gpr_of r f.a)) =
    result_is r c.a_of-2.result f.a c.is_last.result f.last c.match-outside.value (masked outside mask word (gpr_of r f.a)) c.a_of-2.ensures.is c.is_last.ensures value in
    λ cell m. ends_with (with_result r c.a_of-2.result c.is_last.result c.match-outside.value) (with_result r f.a f.last (masked outside mask word (gpr_of r f.a))) c.finish_result.new.regs c.finish_result.result changed c.finish_result.ensures cell r m
