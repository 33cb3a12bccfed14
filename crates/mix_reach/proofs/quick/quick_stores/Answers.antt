use Rattle.std.proofs.Common.{ap, sym, ◌∙◌}
use Rattle.m68_ea.specs.Words.{words_at}
use Rattle.mix_reach.specs.laws.Ranges.{plain}
use Rattle.mix_reach.proofs.Quick68.{by_first, none_told, told}
use Rattle.mix_reach.proofs.quick.quick_stores.Goals as goal

pub returns-else-keeps_memory : goal.returns-else-keeps_memory
returns-else-keeps_memory c =
    by_first c.args.regs.now (words_at c.args.ram.now c.args.regs.now.pc) c.word_at-word.result c.op_of_word-op.result c.storing.result c.requires c.word_at-word.ensures.value (sym c.op_of_word-op.ensures.value) c.storing.ensures

pub returns-then-keeps_memory : goal.returns-then-keeps_memory
returns-then-keeps_memory c =
    record {
      is = told c.args.regs.now (words_at c.args.ram.now c.args.regs.now.pc) c.word_at-word.result c.op_of_word-op.result c.nothing.result c.requires c.word_at-word.ensures.value (sym c.op_of_word-op.ensures.value)
          (none_told c.op_of_word-op.result c.word_at-word.result c.args.regs.now (words_at c.args.ram.now c.args.regs.now.pc) (sym c.keeps_memory.ensures ∙ c.if-keeps_memory.true) c.op_of_word-op.ensures.fits ∙ ap plain (sym c.nothing.ensures));
    }
