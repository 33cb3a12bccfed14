use Rattle.std.proofs.Common.{◌+◌, ◌<◌, ◌≤◌, arith}
use Rattle.m68_ea.specs.Words.{words_at}
use Rattle.mix_reach.proofs.Quick68.{found_into}
use Rattle.mix_reach.proofs.quick.at_operand.Goals as goal

pub returns-in-Some : goal.returns-in-Some
returns-in-Some c =
    let near : c.find.new.next ≤ c.args.first + 2 = c.find.ensures.near in
    let few : c.args.first < 4 = c.requires.near in
    found_into c.args.regs.now (words_at c.args.ram.now c.args.regs.now.pc) c.args.first c.args.word c.args.size c.args.mode c.args.lower c.find.result c.in-Some.target c.find.new.next c.find.new.fault c.find.new.regs c.at_place.result
    c.in-Some.is c.find.ensures.is (omega (arith, near, few)) c.at_place.ensures
