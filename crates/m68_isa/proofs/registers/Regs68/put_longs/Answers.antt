use Rattle.std.proofs.Common.{◌≡◌, ◌++◌, length, drop, set, ap, ◌∙◌, rules}
use borrow.Rule.Slice.PartMut.{put_mid}
use Rattle.m68_isa.specs.Longs.{file_of}
use Rattle.m68_isa.proofs.Longs.{written, file_back}
use Rattle.m68_isa.proofs.registers.Regs68.put_longs.Goals as goal

pub returns-clause-value : goal.returns-clause-value
returns-clause-value c =
    let d : length c.args.self.now.d ≡ 8 = search rules in
    let a : length c.args.self.now.a ≡ 8 = search rules in
    (λ i. set (set (put_mid 8 8 (c.copy_from_slice.ensures.after i ++ drop 8 c.args.longs.now) (c.copy_from_slice-2.ensures.after i)) 16 c.args.self.now.pc) 17 (c.bits.ensures.value i))
    ∙ written c.args.longs.now c.args.self.now.d c.args.self.now.a c.args.self.now.pc _ c.requires d a

pub returns-clause-back : goal.returns-clause-back
returns-clause-back c =
    let d : length c.args.self.now.d ≡ 8 = search rules in
    let a : length c.args.self.now.a ≡ 8 = search rules in
    ap file_of (returns-clause-value c) ∙ file_back c.args.self.now d a
