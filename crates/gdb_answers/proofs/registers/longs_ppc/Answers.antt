use Rattle.std.proofs.Common.{◌≡◌, length, rules}
use Rattle.gdb_answers.proofs.Files.{both_written}
use Rattle.gdb_answers.proofs.registers.longs_ppc.Goals as goal

pub returns : goal.returns
returns c =
    let gpr : length c.args.regs.now.gpr ≡ 32 = search rules in
    both_written _ _ _ _ c.copy_from_slice.ensures.after c.copy_from_slice-2.ensures.after gpr
