use Rattle.std.proofs.Common.{◌≡◌, ◌++◌, length, drop, replicate, set, refl, ◌∙◌, rules}
use borrow.Rule.Slice.PartMut.{put_mid}
use Rattle.m68_isa.proofs.Longs.{written}
use Rattle.gdb_answers.proofs.registers.longs_68k.Goals as goal

pub returns : goal.returns
returns c =
    let d : length c.args.regs.now.d ≡ 8 = search rules in
    let a : length c.args.regs.now.a ≡ 8 = search rules in
    (λ i. set (set (put_mid 8 8 (c.copy_from_slice.ensures.after i ++ drop 8 (replicate 18 0)) (c.copy_from_slice-2.ensures.after i)) 16 (c.bits.ensures.value i)) 17 c.args.regs.now.pc)
    ∙ written (replicate 18 0) c.args.regs.now.d c.args.regs.now.a _ c.args.regs.now.pc refl d a
