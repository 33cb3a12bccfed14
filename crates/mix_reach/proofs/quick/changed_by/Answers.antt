use Rattle.std.proofs.Common.{◌≡◌, ◌+◌, ap, subst, ◌∙◌}
use Rattle.std.specs.Prelude.{ℕ, IfSome}
use Rattle.m68_isa.specs.First.{first_of, size_of}
use Rattle.m68_isa.specs.Operands.{immediate_words}
use Rattle.m68_ea.specs.Words.{words_at}
use Rattle.mix_reach.specs.inner.Quick.{IsInto}
use Rattle.mix_reach.proofs.Quick68.{into_same}
use Rattle.mix_reach.proofs.quick.changed_by.Goals as goal

pub returns : goal.returns
returns c =
    let ws = words_at c.args.ram.now c.args.regs.now.pc in
    let size = size_of (first_of c.args.word).size in
    let first : c.behind_immediate.result ≡ 1 + immediate_words size = c.behind_immediate.ensures.is ∙ ap (λ s. 1 + immediate_words s) c.size_of-size.ensures.is in
    subst (λ (n : ℕ). IfSome c.at_operand.result (IsInto c.args.regs.now ws n size (first_of c.args.word).mode (first_of c.args.word).lower)) first
    (into_same c.args.regs.now ws c.behind_immediate.result c.size_of-size.result size c.mode_of.result (first_of c.args.word).mode c.lower_of.result (first_of c.args.word).lower
    c.at_operand.result c.size_of-size.ensures.is c.mode_of.ensures.is c.lower_of.ensures.is c.at_operand.ensures)
