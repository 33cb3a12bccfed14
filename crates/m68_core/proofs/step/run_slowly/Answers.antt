use Rattle.std.proofs.Common.{◌≡◌, ◌≢◌, inr, slice_index, rules, ◌%◌, ◌≤◌, ◌∙◌, length, ap, subst, sym, arith}
use Rattle.mix_bits.specs.declared.fault.FaultKind.TheVariants.{Outside}
use Rattle.big_memory.specs.StepsClauses.{Does}
use Rattle.m68_isa.specs.declared.instructions.Decoded68.TheVariants.{Short}
use Rattle.m68_isa.specs.Decode.{decoded}
use Rattle.m68_ea.specs.Words.{words_at}
use Rattle.m68_effects.specs.Step.{stops}
use Rattle.m68_core.proofs.ByOp.{first_there, none_missing, step_odd, step_short}
use Rattle.m68_core.proofs.Leaving.{stop_stays}
use Rattle.m68_core.proofs.step.run_slowly.Goals as goal

pub returns-then-is_short-clause-does : goal.returns-then-is_short-clause-does
returns-then-is_short-clause-does c =
    let most : c.read_words-count.result ≤ length c.read_words-count.new.words = omega (arith, c.read_words-count.ensures.count, c.read_words-count.ensures.length) in
    let even : c.args.regs.now.pc % 2 ≡ 0 = omega (arith, c.if-pc-eq1.false) in
    let goes = c.stop-then-is_short.ensures c.args.regs.now c.args.ram.now in
    let is = step_short c.args.regs.now c.args.ram.now c.read_words-count.result c.read_words-count.new.words c.is_short.result even most
    c.read_words-count.ensures.words c.if-is_short.true c.is_short.ensures in
    subst (λ x. Does x c.stop-then-is_short.result c.stop-then-is_short.new.fault c.args.regs.now c.args.regs.now c.args.ram.now c.args.ram.now)
    (ap (λ v. stops c.args.regs.now Outside v) c.onward.ensures ∙ sym is) goes

pub returns-then-is_short-clause-line : goal.returns-then-is_short-clause-line
returns-then-is_short-clause-line c =
    stop_stays c.args.regs.now c.args.regs.now c.args.ram.now c.args.ram.now c.stop-then-is_short.result _ c.stop-then-is_short.new.fault (c.stop-then-is_short.ensures c.args.regs.now c.args.ram.now)

pub returns-then-pc-eq1-clause-does : goal.returns-then-pc-eq1-clause-does
returns-then-pc-eq1-clause-does c =
    subst (λ x. Does x c.stop.result c.stop.new.fault c.args.regs.now c.args.regs.now c.args.ram.now c.args.ram.now)
    (sym (step_odd c.args.regs.now c.args.ram.now c.if-pc-eq1.true)) (c.stop.ensures c.args.regs.now c.args.ram.now)

pub returns-then-pc-eq1-clause-line : goal.returns-then-pc-eq1-clause-line
returns-then-pc-eq1-clause-line c =
    stop_stays c.args.regs.now c.args.regs.now c.args.ram.now c.args.ram.now c.stop.result _ c.stop.new.fault (c.stop.ensures c.args.regs.now c.args.ram.now)

pub run_word-requires-clause-first : goal.run_word-requires-clause-first
run_word-requires-clause-first c =
    let ws = words_at c.args.ram.now c.args.regs.now.pc in
    let there : decoded ws ≢ Short = none_missing c.read_words-count.result c.read_words-count.new.words ws c.is_short.result c.read_words-count.ensures.words c.if-is_short.false c.is_short.ensures in
    let first : c.from-word.result ≡ slice_index c.read_words-count.new.words 0 = search rules in
    first_there c.read_words-count.result c.read_words-count.new.words ws c.from-word.result first c.read_words-count.ensures.words there

pub run_word-requires-clause-there : goal.run_word-requires-clause-there
run_word-requires-clause-there c =
    let ws = words_at c.args.ram.now c.args.regs.now.pc in
    inr (none_missing c.read_words-count.result c.read_words-count.new.words ws c.is_short.result c.read_words-count.ensures.words c.if-is_short.false c.is_short.ensures)
