use Rattle.std.proofs.Common.{◌<◌, ◌+◌, ◌≤◌, length, arith}
use Rattle.std.proofs.lemmas.Bool.Decides.{nat_tests}
use Rattle.m68_ea.proofs.Fetch.{five_words, fewer_words}
use Rattle.m68_ea.proofs.words.has_five.Goals as goal

pub returns-clause-five : goal.returns-clause-five
returns-clause-five c = λ tells.
    let within : c.args.pc + 10 ≤ length c.args.ram.now.bytes = grind (arith, nat_tests, tells, c.has.ensures.is) in
    five_words c.args.pc c.args.ram.now c.meets_invariant.ensures.most within

pub returns-clause-fewer : goal.returns-clause-fewer
returns-clause-fewer c = λ tells.
    let past : length c.args.ram.now.bytes < c.args.pc + 10 = grind (arith, nat_tests, tells, c.has.ensures.is) in
    fewer_words c.args.pc c.args.ram.now c.meets_invariant.ensures.most past
