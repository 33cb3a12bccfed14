use Rattle.std.proofs.Common.{ℕ, ◌*◌, slice_index, refl, ap, sym, subst, ◌∙◌}
use Rattle.mix_bits.specs.Addresses.{onward}
use Rattle.mix_bits.specs.declared.size.Size.TheVariants.{Four}
use Rattle.m68_isa.specs.declared.registers.Regs68.{Regs68}
use Rattle.m68_isa.specs.First.{first_of}
use Rattle.m68_isa.specs.Operands.{operand_at}
use Rattle.m68_isa.specs.Products.{high_of, is_signed, is_wide, low_of}
use Rattle.big_memory.specs.StepsClauses.{Does}
use Rattle.big_memory.specs.Steps.After.{Stops}
use Rattle.m68_alu.specs.Products.{long_divided}
use Rattle.m68_effects.specs.Arithmetic.{dividend_high, long_quotient_into}
use Rattle.m68_ea.specs.Places.{with_address}
use Rattle.m68_effects.specs.Parts.{Effect, after, vector}
use Rattle.m68_ea.specs.Words.{words_at}
use Rattle.m68_arithmetic.proofs.Quotients.{by_divisor}
use Rattle.m68_effects.proofs.Steps.{operand_is, refused, taken}
use Rattle.m68_arithmetic.proofs.long_products.divide_by_operand.Goals as goal

pub returns-in_default : goal.returns-in_default
returns-in_default c =
    let r = c.args.regs.now in
    let m = c.args.ram.now in
    let f = first_of c.args.word in
    let w = c.args.registers in
    let same = operand_is (words_at m r.pc) Four 2 2 c.mode_of-mode.result f.mode c.lower_of-lower.result f.lower refl c.mode_of-mode.ensures.is c.lower_of-lower.ensures.is in
    let row : ℕ → Regs68 × ℕ → Effect = λ next. λ (q, s). long_quotient_into q m next (high_of w) (low_of w) (long_divided (is_signed w) (dividend_high (is_signed w) (is_wide w) (slice_index q.d (high_of w)) (slice_index q.d (low_of w))) (slice_index q.d (low_of w)) s r.ccr) in
    (refused r m c.args.word Four (operand_at (words_at m r.pc) 2 Four c.mode_of-mode.result c.lower_of-lower.result) (operand_at (words_at m r.pc) 2 Four f.mode f.lower) row c.source.new.fault same c.in_default.ensures.is.0, c.in_default.ensures.is.1, refl)

pub returns-then-by-eq0 : goal.returns-then-by-eq0
returns-then-by-eq0 c =
    let r = c.args.regs.now in
    let m = c.args.ram.now in
    let f = first_of c.args.word in
    let w = c.args.registers in
    let q = c.source.new.regs in
    let v = c.in-Some.by in
    let next = c.source.new.next in
    let took = c.in-Some.ensures.is in
    let lower = c.lower_of-lower.result in
    let restored = with_address q lower (slice_index r.a lower) in
    let same = operand_is (words_at m r.pc) Four 2 2 c.mode_of-mode.result f.mode c.lower_of-lower.result f.lower refl c.mode_of-mode.ensures.is c.lower_of-lower.ensures.is in
    let row : ℕ → Regs68 × ℕ → Effect = λ next. λ (q, s). long_quotient_into q m next (high_of w) (low_of w) (long_divided (is_signed w) (dividend_high (is_signed w) (is_wide w) (slice_index q.d (high_of w)) (slice_index q.d (low_of w))) (slice_index q.d (low_of w)) s r.ccr) in
    let step =
    taken r q m c.args.word Four (operand_at (words_at m r.pc) 2 Four c.mode_of-mode.result c.lower_of-lower.result) (operand_at (words_at m r.pc) 2 Four f.mode f.lower) v next row same took.0 took.1 took.2
    ∙ ap (λ x. after (row (onward r.pc (2 * next)) (q, x))) c.if-by-eq0.true in
    subst (λ s. Does s c.stop.result c.stop.new.fault r restored m m) (sym step)
    (subst (λ x. Does (Stops (vector q 5)) c.stop.result c.stop.new.fault x restored m m) c.in-Some.ensures.back (c.stop.ensures restored m))

pub returns : goal.returns
returns c =
    let r = c.args.regs.now in
    let m = c.args.ram.now in
    let f = first_of c.args.word in
    let w = c.args.registers in
    let q = c.source.new.regs in
    let v = c.in-Some.by in
    let next = c.source.new.next in
    let took = c.in-Some.ensures.is in
    let same = operand_is (words_at m r.pc) Four 2 2 c.mode_of-mode.result f.mode c.lower_of-lower.result f.lower refl c.mode_of-mode.ensures.is c.lower_of-lower.ensures.is in
    let low = slice_index q.d (low_of w) in
    let above = dividend_high (is_signed w) (is_wide w) (slice_index q.d (high_of w)) low in
    let row : ℕ → Regs68 × ℕ → Effect = λ next. λ (q, s). long_quotient_into q m next (high_of w) (low_of w) (long_divided (is_signed w) (dividend_high (is_signed w) (is_wide w) (slice_index q.d (high_of w)) (slice_index q.d (low_of w))) (slice_index q.d (low_of w)) s r.ccr) in
    let step = taken r q m c.args.word Four (operand_at (words_at m r.pc) 2 Four c.mode_of-mode.result c.lower_of-lower.result) (operand_at (words_at m r.pc) 2 Four f.mode f.lower) v next row same took.0 took.1 took.2 in
    by_divisor r q c.divide.new.regs m next (high_of w) (low_of w) (is_signed w) above low v _ c.divide.result c.divide.new.fault c.if-by-eq0.false took.3.pc took.3.ccr step c.divide.ensures
