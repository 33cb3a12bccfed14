use Rattle.std.proofs.Common.{sym, ◌∙◌}
use Rattle.m68_ea.specs.Words.{words_at}
use Rattle.mix_reach.specs.laws.Ranges.{nothing}
use Rattle.mix_reach.proofs.Quick68.{none_told, told}
use Rattle.mix_reach.proofs.quick.is_still.Goals as goal

pub returns : goal.returns
returns c = λ still.
    told c.args.regs.now (words_at c.args.ram.now c.args.regs.now.pc) c.word_at-word.result c.op_of_word.result nothing c.requires c.word_at-word.ensures.value (sym c.op_of_word.ensures.value)
    (none_told c.op_of_word.result c.word_at-word.result c.args.regs.now (words_at c.args.ram.now c.args.regs.now.pc) (sym c.keeps_memory.ensures ∙ still) c.op_of_word.ensures.fits)
