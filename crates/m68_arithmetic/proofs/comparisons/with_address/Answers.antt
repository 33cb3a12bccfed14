use Rattle.std.proofs.Common.{◌≡◌, ℕ, ◌*◌, slice_index, refl, ◌∙◌}
use Rattle.mix_bits.specs.Addresses.{onward}
use Rattle.mix_bits.specs.Sizes.{sign_extended}
use Rattle.mix_bits.specs.declared.size.Size.TheVariants.{Four}
use Rattle.m68_isa.specs.declared.registers.Regs68.{Regs68}
use Rattle.m68_isa.specs.First.{first_of}
use Rattle.m68_isa.specs.Operands.{operand_at}
use Rattle.m68_effects.specs.inner.Rows.{comparison}
use Rattle.m68_effects.specs.Parts.{Effect, goes_on, with_ccr}
use Rattle.m68_ea.specs.Words.{words_at}
use Rattle.m68_effects.proofs.Steps.{goes, operand_is, refused, taken}
use Rattle.m68_arithmetic.proofs.comparisons.with_address.Goals as goal

pub returns-in_default : goal.returns-in_default
returns-in_default c =
    let r = c.args.regs.now in
    let m = c.args.ram.now in
    let f = first_of c.args.word in
    let size = c.args.size in
    let same = operand_is (words_at m r.pc) size 1 1 c.mode_of-mode.result f.mode c.lower_of-lower.result f.lower refl c.mode_of-mode.ensures.is c.lower_of-lower.ensures.is in
    let row : ℕ → Regs68 × ℕ → Effect = λ next. λ (q, s). goes_on next (with_ccr q (comparison Four r.ccr (slice_index q.a f.upper) (sign_extended s size))) m in
    (refused r m c.args.word size (operand_at (words_at m r.pc) 1 size c.mode_of-mode.result c.lower_of-lower.result) (operand_at (words_at m r.pc) 1 size f.mode f.lower) row c.source.new.fault same c.in_default.ensures.is.0, c.in_default.ensures.is.1, refl)

pub returns : goal.returns
returns c =
    let r = c.args.regs.now in
    let m = c.args.ram.now in
    let f = first_of c.args.word in
    let size = c.args.size in
    let q = c.source.new.regs in
    let v = c.in-Some.value in
    let next = c.source.new.next in
    let took = c.in-Some.ensures.is in
    let same = operand_is (words_at m r.pc) size 1 1 c.mode_of-mode.result f.mode c.lower_of-lower.result f.lower refl c.mode_of-mode.ensures.is c.lower_of-lower.ensures.is in
    let row : ℕ → Regs68 × ℕ → Effect = λ next. λ (q, s). goes_on next (with_ccr q (comparison Four r.ccr (slice_index q.a f.upper) (sign_extended s size))) m in
    let step = taken r q m c.args.word size (operand_at (words_at m r.pc) 1 size c.mode_of-mode.result c.lower_of-lower.result) (operand_at (words_at m r.pc) 1 size f.mode f.lower) v next row same took.0 took.1 took.2 in
    let ccr : c.compare.new.ccr ≡ comparison Four r.ccr (slice_index q.a f.upper) (sign_extended v size) = c.compare.ensures ∙ (λ i. comparison Four (took.3.ccr i) (slice_index q.a (c.upper_of-upper.ensures.is i)) (c.sext.ensures i)) in
    goes _ r c.go_on.new.regs (record (with_ccr q (comparison Four r.ccr (slice_index q.a f.upper) (sign_extended v size))) { pc = onward r.pc (2 * next) }) c.go_on.result c.source.new.fault m c.go_on.ensures.next step
    (c.go_on.ensures.registers ∙ (λ i. record (with_ccr q (ccr i)) { pc = onward (took.3.pc i) (2 * next) }))
