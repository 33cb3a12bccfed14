use Rattle.std.proofs.Common.{subst}
use Rattle.m68_isa.specs.Operands.{operand_at}
use Rattle.m68_ea.specs.Usual.{TakesUsual}
use Rattle.m68_ea.specs.Words.{words_at}
use Rattle.m68_ea.proofs.Back.{address_kept}
use Rattle.m68_ea.proofs.Immediate.{immediate_taken, no_immediate}
use Rattle.m68_ea.proofs.usual.usual_or_immediate.Goals as goal

pub returns-then-lower-eq4-clause-is : goal.returns-then-lower-eq4-clause-is
returns-then-lower-eq4-clause-is c =
    let r = c.args.regs.now in
    let m = c.args.ram.now in
    immediate_taken r m (words_at m r.pc) c.args.next.now c.args.size c.args.mode c.args.lower c.immediate_at-value.result c.immediate_words.result c.trunc.result c.if-mode-eq7.true c.if-lower-eq4.true c.immediate_at-value.ensures c.immediate_words.ensures.value c.trunc.ensures

pub returns-then-lower-eq4-clause-back : goal.returns-then-lower-eq4-clause-back
returns-then-lower-eq4-clause-back c = address_kept c.args.regs.now c.args.lower

pub returns-else-mode-eq7-clause-is : goal.returns-else-mode-eq7-clause-is
returns-else-mode-eq7-clause-is c =
    let r = c.args.regs.now in
    let m = c.args.ram.now in
    subst (λ tried. TakesUsual r m c.args.next.now c.args.size (operand_at (words_at m r.pc) c.args.next.now c.args.size c.args.mode c.args.lower) tried c.source_in_memory.result c.source_in_memory.new.next c.source_in_memory.new.regs)
    (no_immediate c.args.mode c.args.lower c.else-mode-eq7.either) c.source_in_memory.ensures.is

pub returns-else-mode-eq7-clause-back : goal.returns-else-mode-eq7-clause-back
returns-else-mode-eq7-clause-back c = c.source_in_memory.ensures.back
