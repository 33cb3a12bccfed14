use Rattle.std.proofs.Common.{◌∙◌}
use Rattle.m68_ea.specs.Words.{words_at}
use Rattle.mix_reach.proofs.Quick68.{told_is}
use Rattle.mix_reach.proofs.steps.code_stores.Goals as goal

pub returns-in-Some : goal.returns-in-Some
returns-in-Some c = c.plain.ensures ∙ told_is c.args.regs.now (words_at c.args.ram.now c.args.regs.now.pc) c.quick_stores.result c.in-Some.reach c.in-Some.is c.quick_stores.ensures
