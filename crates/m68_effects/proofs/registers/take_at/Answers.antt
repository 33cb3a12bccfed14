use Rattle.std.proofs.Common.{◌≡◌, ℕ, ◌*◌, slice_index, refl, ◌∙◌}
use Rattle.mix_bits.specs.Addresses.{onward}
use Rattle.mix_bits.specs.Sizes.{low_replaced}
use Rattle.m68_isa.specs.declared.registers.Regs68.{Regs68}
use Rattle.m68_isa.specs.First.{first_of}
use Rattle.m68_isa.specs.Operands.{operand_at}
use Rattle.m68_effects.specs.Operations.{result_of}
use Rattle.m68_effects.specs.Parts.{Effect, goes_on, with_ccr, with_result}
use Rattle.m68_ea.specs.Places.{with_data}
use Rattle.m68_ea.specs.Words.{words_at}
use Rattle.m68_effects.proofs.Steps.{goes, no_source_at, refused, source_at, taken}
use Rattle.m68_effects.proofs.registers.take_at.Goals as goal

pub returns-in_default : goal.returns-in_default
returns-in_default c =
    let r = c.args.regs.now in
    let m = c.args.ram.now in
    let f = first_of c.args.word in
    let size = c.args.size in
    let row : ℕ → Regs68 × ℕ → Effect = λ next. λ (q, s). goes_on next (with_result q f.upper size (result_of c.args.op size r.ccr (slice_index q.d f.upper) s)) m in
    (refused r m c.args.word size (operand_at (words_at m r.pc) 1 size f.mode f.lower) (operand_at (words_at m r.pc) 1 size f.mode f.lower) row c.load.new.fault refl (no_source_at r m c.args.word size (operand_at (words_at m r.pc) 1 size f.mode f.lower) c.args.at c.args.next c.load.new.fault c.requires.found c.in_default.ensures.is), refl, refl)

pub returns : goal.returns
returns c =
    let r = c.args.regs.now in
    let m = c.args.ram.now in
    let f = first_of c.args.word in
    let size = c.args.size in
    let v = c.in-Some.value in
    let next = c.args.next in
    let at = c.requires.found in
    let upper = c.upper_of-upper.ensures.is in
    let row : ℕ → Regs68 × ℕ → Effect = λ next. λ (q, s). goes_on next (with_result q f.upper size (result_of c.args.op size r.ccr (slice_index q.d f.upper) s)) m in
    let step = taken r r m c.args.word size (operand_at (words_at m r.pc) 1 size f.mode f.lower) (operand_at (words_at m r.pc) 1 size f.mode f.lower) v next row refl at.good (source_at r m size (operand_at (words_at m r.pc) 1 size f.mode f.lower) c.args.at next v at c.in-Some.ensures.is) at.onward in
    let out : c.apply-out.result ≡ result_of c.args.op size r.ccr (slice_index r.d f.upper) v = c.apply-out.ensures ∙ (λ i. result_of c.args.op size r.ccr (slice_index r.d (upper i)) v) in
    let low : c.with_low.result ≡ low_replaced (slice_index r.d f.upper) c.apply-out.result.value size = c.with_low.ensures ∙ (λ i. low_replaced (slice_index r.d (upper i)) c.apply-out.result.value size) in
    goes _ r c.go_on.new.regs (record (with_result r f.upper size (result_of c.args.op size r.ccr (slice_index r.d f.upper) v)) { pc = onward r.pc (2 * next) }) c.go_on.result c.load.new.fault m c.go_on.ensures.next step
    (c.go_on.ensures.registers ∙ (λ i. record (with_ccr (with_data r (upper i) (low i)) c.apply-out.result.ccr) { pc = onward r.pc (2 * next) }) ∙ (λ i. record (with_result r f.upper size (out i)) { pc = onward r.pc (2 * next) }))
