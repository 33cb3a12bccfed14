use Rattle.std.proofs.Common.{◌≡◌, ℕ, ◌*◌, refl, ap, ◌∙◌}
use Rattle.mix_bits.specs.Addresses.{onward}
use Rattle.m68_isa.specs.First.{first_of}
use Rattle.m68_isa.specs.Operands.{operand_at}
use Rattle.m68_isa.specs.declared.operand.Operand.{Operand}
use Rattle.m68_alu.specs.declared.sums.Out.{Out}
use Rattle.m68_ea.specs.FindsClauses.{before}
use Rattle.m68_effects.specs.Operations.{result_of}
use Rattle.m68_effects.specs.Parts.{with_ccr}
use Rattle.m68_ea.specs.Words.{words_at}
use Rattle.m68_effects.proofs.Changing.{found, illegal, read, unread, unwritten, written}
use Rattle.m68_effects.proofs.changes.change.Goals as goal

pub returns-in_default : goal.returns-in_default
returns-in_default c =
    let r = c.args.regs.now in
    let m = c.args.ram.now in
    let f = first_of c.args.word in
    let e : ℕ → ℕ → Operand = operand_at (words_at m r.pc) c.args.first c.args.size in
    let refused = c.in_default.ensures.is in
    (illegal r m c.args.word c.args.size (e c.mode_of-mode.result c.lower_of-lower.result) (e f.mode f.lower) (λ d. result_of c.args.op c.args.size r.ccr d c.args.by) c.find.new.fault (λ i. e (c.mode_of-mode.ensures.is i) (c.lower_of-lower.ensures.is i)) refused.0 refused.1, refused.2, refl)

pub returns-in_default-value : goal.returns-in_default-value
returns-in_default-value c =
    let r = c.args.regs.now in
    let m = c.args.ram.now in
    let f = first_of c.args.word in
    let e : ℕ → ℕ → Operand = operand_at (words_at m r.pc) c.args.first c.args.size in
    let op : ℕ → Out = λ d. result_of c.args.op c.args.size r.ccr d c.args.by in
    let finds = c.in-Some.ensures.is in
    let refused = c.in_default-value.ensures in (
      found r c.find.new.regs m c.args.word c.find.new.next c.args.size (e c.mode_of-mode.result c.lower_of-lower.result) (e f.mode f.lower) c.in-Some.target.place op (λ i. e (c.mode_of-mode.ensures.is i) (c.lower_of-lower.ensures.is i)) finds.0 finds.1 finds.2
          ∙ unread (onward r.pc (2 * c.find.new.next)) c.args.size op m c.find.new.regs c.in-Some.target.place c.value.new.fault refused.0,
      refused.1 ∙ finds.3,
      refl,
    )

pub returns-then-not-put : goal.returns-then-not-put
returns-then-not-put c =
    let r = c.args.regs.now in
    let m = c.args.ram.now in
    let f = first_of c.args.word in
    let e : ℕ → ℕ → Operand = operand_at (words_at m r.pc) c.args.first c.args.size in
    let op : ℕ → Out = λ d. result_of c.args.op c.args.size r.ccr d c.args.by in
    let next = onward r.pc (2 * c.find.new.next) in
    let finds = c.in-Some.ensures.is in
    let reads = c.in-Some-value.ensures in
    let out : c.apply-out.result ≡ op c.in-Some-value.old =
    c.apply-out.ensures ∙ (λ i. result_of c.args.op c.args.size (reads.1 i).ccr c.in-Some-value.old c.args.by) ∙ (λ i. result_of c.args.op c.args.size (finds.4.ccr i) c.in-Some-value.old c.args.by) in
    let step =
    found r c.find.new.regs m c.args.word c.find.new.next c.args.size (e c.mode_of-mode.result c.lower_of-lower.result) (e f.mode f.lower) c.in-Some.target.place op (λ i. e (c.mode_of-mode.ensures.is i) (c.lower_of-lower.ensures.is i)) finds.0 finds.1 finds.2
    ∙ read next c.args.size op m c.find.new.regs c.value.new.regs c.in-Some.target.place c.in-Some-value.old c.apply-out.result reads.0 reads.1 out in
    let refused = c.if-not-put.ensures in
    (step ∙ unwritten next c.apply-out.result _ c.put.new.fault refused.0, refused.1 ∙ ap (λ x. before x c.in-Some.target) reads.1 ∙ finds.3, refused.2)

pub returns : goal.returns
returns c =
    let r = c.args.regs.now in
    let m = c.args.ram.now in
    let f = first_of c.args.word in
    let e : ℕ → ℕ → Operand = operand_at (words_at m r.pc) c.args.first c.args.size in
    let op : ℕ → Out = λ d. result_of c.args.op c.args.size r.ccr d c.args.by in
    let next = onward r.pc (2 * c.find.new.next) in
    let finds = c.in-Some.ensures.is in
    let reads = c.in-Some-value.ensures in
    let out : c.apply-out.result ≡ op c.in-Some-value.old =
    c.apply-out.ensures ∙ (λ i. result_of c.args.op c.args.size (reads.1 i).ccr c.in-Some-value.old c.args.by) ∙ (λ i. result_of c.args.op c.args.size (finds.4.ccr i) c.in-Some-value.old c.args.by) in
    let step =
    found r c.find.new.regs m c.args.word c.find.new.next c.args.size (e c.mode_of-mode.result c.lower_of-lower.result) (e f.mode f.lower) c.in-Some.target.place op (λ i. e (c.mode_of-mode.ensures.is i) (c.lower_of-lower.ensures.is i)) finds.0 finds.1 finds.2
    ∙ read next c.args.size op m c.find.new.regs c.value.new.regs c.in-Some.target.place c.in-Some-value.old c.apply-out.result reads.0 reads.1 out in
    let puts = c.if-not-put.ensures in
    let pc = puts.2.pc ∙ (λ i. (reads.1 i).pc) ∙ finds.4.pc in
    written _ r c.put.new.regs c.go_on.new.regs m c.put.new.ram next c.apply-out.result _ c.go_on.result c.put.new.fault step puts.0 puts.1 c.go_on.ensures.next
    (c.go_on.ensures.registers ∙ (λ i. record (with_ccr c.put.new.regs c.apply-out.result.ccr) { pc = onward (pc i) (2 * c.find.new.next) }))
