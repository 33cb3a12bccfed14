use Rattle.std.proofs.Common.{◌≡◌, ℕ, ◌*◌, ◌%◌, slice_index, ap, sym, ◌∙◌}
use Rattle.mix_bits.specs.Addresses.{onward}
use Rattle.mix_bits.specs.Results.{◌>>=◌}
use Rattle.mix_bits.specs.declared.size.Size.{Size}
use Rattle.m68_isa.specs.declared.registers.Regs68.{Regs68}
use Rattle.m68_isa.specs.declared.instructions.Instr68.TheVariants.{MovemFromMemory}
use Rattle.m68_isa.specs.First.{first_of, long_or_word}
use Rattle.m68_isa.specs.Operands.{operand_at}
use Rattle.m68_isa.specs.Rows.{taken}
use Rattle.big_memory.specs.Steps.{After}
use Rattle.big_memory.specs.StepsClauses.{Does}
use Rattle.m68_effects.specs.Multiple.{span_of}
use Rattle.m68_effects.specs.inner.Rows.{movem_out_of}
use Rattle.m68_effects.specs.laws.Ops.{runs_made}
use Rattle.m68_effects.specs.Parts.{Effect, after, goes_on}
use Rattle.m68_ea.specs.Places.{with_address}
use Rattle.m68_ea.specs.Words.{words_at}
use Rattle.m68_effects.proofs.Steps.{goes}
use Rattle.m68_movement.proofs.Bases.{out_of_found}
use Rattle.m68_movement.proofs.multiple.do_movem_from_memory.Goals as goal

pub returns-then-mode-eq3 : goal.returns-then-mode-eq3
returns-then-mode-eq3 c =
    let r = c.args.regs.now in
    let m = c.args.ram.now in
    let f = first_of c.args.word in
    let ws = words_at m r.pc in
    let size = c.transfer_size_of-size.result in
    let mask = c.word_at-mask.result in
    let lower = c.lower_of-lower.result in
    let q = c.load_all.new.regs in
    let loads = c.in-Some.ensures in
    let mode : 3 ≡ f.mode = sym c.if-mode-eq3.true ∙ c.mode_of-mode.ensures.is in
    let row : Size → ℕ → ℕ → ℕ → After Regs68 = λ s mask mode lower. runs_made r m c.args.word (taken (MovemFromMemory s mask (operand_at ws 2 s mode lower).ea) (operand_at ws 2 s mode lower)) in
    let same : row size mask 3 lower ≡ row (long_or_word (f.size % 2)) (slice_index ws 1) f.mode f.lower = λ i. row (c.transfer_size_of-size.ensures.is i) (c.word_at-mask.ensures.value i) (mode i) (c.lower_of-lower.ensures.is i) in
    let base : ℕ = slice_index r.a lower in
    let behind : Regs68 → Effect = λ q. goes_on (onward r.pc (2 * 2)) (with_address q lower (onward base (span_of size mask))) m in
    let end : c.onward.result ≡ onward base (span_of size mask) = c.onward.ensures ∙ (λ i. onward base (c.bytes.ensures i * loads.1 i)) in
    goes _ r c.go_on.new.regs (record (with_address q lower (onward base (span_of size mask))) { pc = onward r.pc (2 * 2) }) c.go_on.result c.load_all.new.fault m c.go_on.ensures.next (sym same ∙ ap (λ x. after (x >>= behind)) loads.0)
    (c.go_on.ensures.registers ∙ (λ i. record (with_address q lower (end i)) { pc = onward (loads.3 i) (2 * 2) }))

pub returns : goal.returns
returns c =
    let r = c.args.regs.now in
    let m = c.args.ram.now in
    let q = c.load_all-2.new.regs in
    let next = c.control.new.next in
    let at = c.in-Some-control.at in
    let loads = c.in-Some-load_all.ensures in
    let behind : Regs68 → Effect = λ q. goes_on (onward r.pc (2 * next)) q m in
    let done : Does (after (movem_out_of r m (onward r.pc (2 * next)) c.transfer_size_of-size.result c.word_at-mask.result at)) c.go_on-2.result c.load_all-2.new.fault r c.go_on-2.new.regs m m =
    goes _ r c.go_on-2.new.regs (record q { pc = onward r.pc (2 * next) }) c.go_on-2.result c.load_all-2.new.fault m c.go_on-2.ensures.next (ap (λ x. after (x >>= behind)) loads.0)
    (c.go_on-2.ensures.registers ∙ (λ i. record q { pc = onward (loads.3 i) (2 * next) })) in
    rw (← c.mode_of-mode.ensures.is, ← c.lower_of-lower.ensures.is)
    (out_of_found r _ m _ c.args.word ((first_of c.args.word).size % 2) _ 2 c.mode_of-mode.result c.lower_of-lower.result at next (words_at m r.pc) _ c.control.new.fault _ c.if-mode-eq3.false c.in-Some-control.ensures.word c.in-Some-control.ensures.long
    (rw (← c.transfer_size_of-size.ensures.is, ← c.word_at-mask.ensures.value) done))
