use Rattle.std.proofs.Common.{◌+◌, subst}
use Rattle.m68_isa.specs.Operands.{immediate_at}
use Rattle.big_memory.specs.StepsClauses.{Does}
use Rattle.m68_effects.specs.Operations.{changed_at}
use Rattle.m68_ea.specs.Words.{words_at}
use Rattle.m68_effects.proofs.changes.change_by_data.Goals as goal

pub returns : goal.returns
returns c =
    let r = c.args.regs.now in
    let m = c.args.ram.now in
    subst (λ words. Does (changed_at c.args.size c.args.op (1 + words) (immediate_at (words_at m r.pc) 1 c.args.size) c.args.word r m) c.change.result c.change.new.fault r c.change.new.regs m c.change.new.ram) c.immediate_words-first.ensures.value
    (subst (λ by. Does (changed_at c.args.size c.args.op (1 + c.immediate_words-first.result) by c.args.word r m) c.change.result c.change.new.fault r c.change.new.regs m c.change.new.ram) c.immediate_at-by.ensures c.change.ensures)
