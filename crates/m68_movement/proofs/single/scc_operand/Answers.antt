use Rattle.std.proofs.Common.{ℕ, ◌*◌, ◌∙◌}
use Rattle.mix_bits.specs.Addresses.{onward}
use Rattle.mix_bits.specs.declared.size.Size.TheVariants.{One}
use Rattle.m68_isa.specs.declared.registers.Regs68.{Regs68}
use Rattle.m68_isa.specs.declared.operand.Operand.{Operand}
use Rattle.m68_isa.specs.First.{first_of}
use Rattle.m68_isa.specs.Operands.{operand_at}
use Rattle.m68_ea.specs.Words.{words_at}
use Rattle.m68_movement.proofs.Writings.{unwritten, written}
use Rattle.m68_movement.proofs.single.scc_operand.Goals as goal

pub write-requires-clause-alterable : goal.write-requires-clause-alterable
write-requires-clause-alterable c = rw (c.mode_of-mode.ensures.is, c.lower_of-lower.ensures.is) c.requires

pub returns-then-write : goal.returns-then-write
returns-then-write c =
    let r = c.args.regs.now in
    let m = c.args.ram.now in
    let f = first_of c.args.word in
    let e : ℕ → ℕ → Operand = operand_at (words_at m r.pc) 1 One in
    let kept : Regs68 → Regs68 = λ q. q in
    let writes = c.if-write.ensures.is in
    written r c.write.new.regs c.go_on.new.regs m c.write.new.ram c.args.word c.write.new.next One kept (e c.mode_of-mode.result c.lower_of-lower.result) (e f.mode f.lower) c.ones-value.result _ c.go_on.result c.write.new.fault (λ i. e (c.mode_of-mode.ensures.is i) (c.lower_of-lower.ensures.is i)) c.ones-value.ensures writes.0 writes.1 writes.2 writes.5 c.go_on.ensures.next
    (c.go_on.ensures.registers ∙ (λ i. record c.write.new.regs { pc = onward (writes.3 i) (2 * c.write.new.next) }))

pub returns-else-write : goal.returns-else-write
returns-else-write c =
    let r = c.args.regs.now in
    let m = c.args.ram.now in
    let f = first_of c.args.word in
    let e : ℕ → ℕ → Operand = operand_at (words_at m r.pc) 1 One in
    let kept : Regs68 → Regs68 = λ q. q in
    let refused = c.if-write.ensures.is in
    (unwritten r m c.args.word One kept (e c.mode_of-mode.result c.lower_of-lower.result) (e f.mode f.lower) c.ones-value.result _ c.write.new.fault (λ i. e (c.mode_of-mode.ensures.is i) (c.lower_of-lower.ensures.is i)) c.ones-value.ensures refused.0, refused.1, refused.2)
