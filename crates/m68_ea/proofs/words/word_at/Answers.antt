use Rattle.std.proofs.Common.{◌<◌, ◌+◌, ◌*◌, length, ◌∙◌, arith}
use Rattle.std.proofs.lemmas.Bool.Decides.{nat_tests}
use Rattle.m68_ea.proofs.Fetch.{word_of_bytes, word_past}
use Rattle.m68_ea.proofs.words.word_at.Goals as goal

pub returns-in-Ok-clause-value : goal.returns-in-Ok-clause-value
returns-in-Ok-clause-value c =
    c.last_word.ensures.value ∙ word_of_bytes c.args.ram.now c.args.pc c.args.at _ c.memory_laws.ensures.loads c.meets_invariant.ensures.most c.requires c.in-Ok.ensures.0 c.in-Ok.ensures.1

pub returns-in-Err-clause-value : goal.returns-in-Err-clause-value
returns-in-Err-clause-value c =
    let past : length c.args.ram.now.bytes < c.args.pc + (2 * c.args.at + 2) = grind (arith, nat_tests, c.in-Err.ensures.0) in
    word_past c.args.at c.args.pc c.args.ram.now c.meets_invariant.ensures.most c.requires past
