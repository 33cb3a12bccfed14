use Rattle.std.proofs.Common.{slice_index, ap, sym, ◌∙◌}
use Rattle.mix_bits.specs.declared.size.Size.TheVariants.{Four}
use Rattle.mix_bits.specs.Sizes.{truncated}
use Rattle.m68_isa.specs.First.{first_of}
use Rattle.m68_isa.specs.Operands.{operand_at}
use Rattle.m68_ea.specs.Words.{words_at}
use Rattle.m68_arithmetic.proofs.Quotients.{by_register, by_registers, no_registers}
use Rattle.m68_arithmetic.proofs.long_products.do_div_long.Goals as goal

pub returns-then-not-is_register_word : goal.returns-then-not-is_register_word
returns-then-not-is_register_word c =
    let r = c.args.regs.now in
    let m = c.args.ram.now in
    let f = first_of c.args.word in
    no_registers r m c.args.word (operand_at (words_at m r.pc) 2 Four f.mode f.lower) c.word_at-registers.result (slice_index (words_at m r.pc) 1) c.stop.result c.stop.new.fault c.word_at-registers.ensures.value
    (sym c.is_register_word.ensures ∙ c.if-not-is_register_word.true) (c.stop.ensures r m)

pub returns-then-by-ne0 : goal.returns-then-by-ne0
returns-then-by-ne0 c =
    let r = c.args.regs.now in
    let m = c.args.ram.now in
    let f = first_of c.args.word in
    by_register r c.divide.new.regs m (words_at m r.pc) c.args.word f.mode f.lower c.trunc-by.result c.word_at-registers.result (slice_index (words_at m r.pc) 1) c.divide.result c.divide.new.fault c.word_at-registers.ensures.value
    (sym c.is_register_word.ensures ∙ c.if-not-is_register_word.false) (sym c.if-mode_of-eq0.true ∙ c.mode_of.ensures.is)
    (c.trunc-by.ensures ∙ ap (λ n. truncated (slice_index r.d n) Four) c.lower_of.ensures.is) c.divide.ensures

pub returns-else-mode_of-eq0 : goal.returns-else-mode_of-eq0
returns-else-mode_of-eq0 c =
    let r = c.args.regs.now in
    let m = c.args.ram.now in
    let f = first_of c.args.word in
    by_registers r c.divide_by_operand.new.regs m c.args.word (operand_at (words_at m r.pc) 2 Four f.mode f.lower) c.word_at-registers.result (slice_index (words_at m r.pc) 1) c.divide_by_operand.result c.divide_by_operand.new.fault c.word_at-registers.ensures.value
    (sym c.is_register_word.ensures ∙ c.if-not-is_register_word.false) c.divide_by_operand.ensures
