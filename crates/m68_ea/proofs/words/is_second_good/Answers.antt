use Rattle.std.proofs.Common.{◌∙◌, ap, sym}
use Rattle.m68_isa.specs.Operands.{operand_at}
use Rattle.m68_ea.specs.Words.{words_at}
use Rattle.m68_ea.proofs.words.is_second_good.Goals as goal

pub returns-in_default : goal.returns-in_default
returns-in_default c =
    let ws = words_at c.args.ram.now c.args.pc in
    c.is_good.ensures c.args.size
    ∙ ap (λ at. (operand_at ws at c.args.size c.args.second.0 c.args.second.1).good) (sym (c.extension_words.ensures.count ws 1))
