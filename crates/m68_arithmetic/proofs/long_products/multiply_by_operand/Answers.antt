use Rattle.std.proofs.Common.{ℕ, ◌*◌, slice_index, refl, ◌∙◌}
use Rattle.mix_bits.specs.Addresses.{onward}
use Rattle.mix_bits.specs.declared.size.Size.TheVariants.{Four}
use Rattle.m68_isa.specs.declared.registers.Regs68.{Regs68}
use Rattle.m68_isa.specs.First.{first_of}
use Rattle.m68_isa.specs.Operands.{operand_at}
use Rattle.m68_isa.specs.Products.{high_of, is_signed, is_wide, low_of}
use Rattle.m68_alu.specs.Products.{long_multiplied}
use Rattle.m68_effects.specs.Arithmetic.{product_into}
use Rattle.m68_effects.specs.Parts.{Effect, goes_on}
use Rattle.m68_ea.specs.Words.{words_at}
use Rattle.m68_effects.proofs.Steps.{goes, operand_is, refused, taken}
use Rattle.m68_arithmetic.proofs.long_products.multiply_by_operand.Goals as goal

pub returns-in_default : goal.returns-in_default
returns-in_default c =
    let r = c.args.regs.now in
    let m = c.args.ram.now in
    let f = first_of c.args.word in
    let w = c.args.registers in
    let same = operand_is (words_at m r.pc) Four 2 2 c.mode_of-mode.result f.mode c.lower_of-lower.result f.lower refl c.mode_of-mode.ensures.is c.lower_of-lower.ensures.is in
    let row : ℕ → Regs68 × ℕ → Effect = λ next. λ (q, s). goes_on next (product_into q (is_wide w) (high_of w) (low_of w) (long_multiplied (is_signed w) (is_wide w) (slice_index q.d (low_of w)) s r.ccr)) m in
    (refused r m c.args.word Four (operand_at (words_at m r.pc) 2 Four c.mode_of-mode.result c.lower_of-lower.result) (operand_at (words_at m r.pc) 2 Four f.mode f.lower) row c.source.new.fault same c.in_default.ensures.is.0, c.in_default.ensures.is.1, refl)

pub returns : goal.returns
returns c =
    let r = c.args.regs.now in
    let m = c.args.ram.now in
    let f = first_of c.args.word in
    let w = c.args.registers in
    let q = c.source.new.regs in
    let v = c.in-Some.by in
    let next = c.source.new.next in
    let took = c.in-Some.ensures.is in
    let same = operand_is (words_at m r.pc) Four 2 2 c.mode_of-mode.result f.mode c.lower_of-lower.result f.lower refl c.mode_of-mode.ensures.is c.lower_of-lower.ensures.is in
    let row : ℕ → Regs68 × ℕ → Effect = λ next. λ (q, s). goes_on next (product_into q (is_wide w) (high_of w) (low_of w) (long_multiplied (is_signed w) (is_wide w) (slice_index q.d (low_of w)) s r.ccr)) m in
    let step = taken r q m c.args.word Four (operand_at (words_at m r.pc) 2 Four c.mode_of-mode.result c.lower_of-lower.result) (operand_at (words_at m r.pc) 2 Four f.mode f.lower) v next row same took.0 took.1 took.2 in
    goes _ r c.multiply.new.regs (record (product_into q (is_wide w) (high_of w) (low_of w) (long_multiplied (is_signed w) (is_wide w) (slice_index q.d (low_of w)) v r.ccr)) { pc = onward r.pc (2 * next) }) c.multiply.result c.source.new.fault m c.multiply.ensures.next step
    (c.multiply.ensures.registers ∙ (λ i. record (product_into q (is_wide w) (high_of w) (low_of w) (long_multiplied (is_signed w) (is_wide w) (slice_index q.d (low_of w)) v (took.3.ccr i))) { pc = onward (took.3.pc i) (2 * next) }))
