use Rattle.std.proofs.Common.{ℕ, refl, ap, sym, ◌∙◌}
use Rattle.m68_isa.specs.declared.registers.Regs68.{Regs68}
use Rattle.m68_isa.specs.declared.operand.Operand.{Operand}
use Rattle.m68_isa.specs.Operands.{operand_at}
use Rattle.m68_ea.specs.declared.places.Place68.{Place68}
use Rattle.m68_ea.specs.declared.places.Place68.TheVariants.{Dn, An}
use Rattle.m68_ea.specs.Places.{placed}
use Rattle.m68_ea.specs.Words.{words_at}
use Rattle.m68_ea.proofs.Back.{address_kept, moved_back}
use Rattle.m68_ea.proofs.Found.{found_moved, found_so, found_still}
use Rattle.m68_ea.proofs.operands.find.Goals as goal

pub returns-in-0-clause-is : goal.returns-in-0-clause-is
returns-in-0-clause-is c =
    found_so c.args.regs.now (words_at c.args.ram.now c.args.regs.now.pc) c.args.word c.args.next.now c.args.size c.args.mode 0 (Dn c.args.lower) c.args.lower c.args.fault.now c.in-0.is refl refl refl

pub returns-in-0-clause-registers : goal.returns-in-0-clause-registers
returns-in-0-clause-registers c = (c.requires.number, c.requires.number)

pub returns-in-0-clause-writable : goal.returns-in-0-clause-writable
returns-in-0-clause-writable c = λ alterable. tt

pub returns-in-0-clause-back : goal.returns-in-0-clause-back
returns-in-0-clause-back c = address_kept c.args.regs.now c.args.lower

pub returns-in-1-clause-is : goal.returns-in-1-clause-is
returns-in-1-clause-is c =
    found_so c.args.regs.now (words_at c.args.ram.now c.args.regs.now.pc) c.args.word c.args.next.now c.args.size c.args.mode 1 (An c.args.lower) c.args.lower c.args.fault.now c.in-1.is refl refl refl

pub returns-in-1-clause-registers : goal.returns-in-1-clause-registers
returns-in-1-clause-registers c = (c.requires.number, c.requires.number)

pub returns-in-1-clause-writable : goal.returns-in-1-clause-writable
returns-in-1-clause-writable c = λ alterable. tt

pub returns-in-1-clause-back : goal.returns-in-1-clause-back
returns-in-1-clause-back c = address_kept c.args.regs.now c.args.lower

pub returns-in-3-clause-is : goal.returns-in-3-clause-is
returns-in-3-clause-is c =
    let r = c.args.regs.now in
    let e : ℕ → Operand = λ mode. operand_at (words_at c.args.ram.now r.pc) c.args.next.now c.args.size mode c.args.lower in
    found_moved r c.increment.new.regs c.args.word c.args.size (e c.args.mode) _ c.args.lower _ c.args.next.now c.args.fault.now (λ i. (e (c.in-3.is i)).good) ((λ i. placed r (e (c.in-3.is i)).ea c.args.size) ∙ sym c.increment.ensures) (λ i. (e (sym c.in-3.is i)).next)
    (ap (λ (p : Regs68 × Place68). p.0) c.increment.ensures)

pub returns-in-3-clause-registers : goal.returns-in-3-clause-registers
returns-in-3-clause-registers c = (tt, c.requires.number)

pub returns-in-3-clause-writable : goal.returns-in-3-clause-writable
returns-in-3-clause-writable c = λ alterable. tt

pub returns-in-3-clause-back : goal.returns-in-3-clause-back
returns-in-3-clause-back c = moved_back c.args.regs.now c.increment.new.regs c.args.lower _ (ap (λ (p : Regs68 × Place68). p.0) c.increment.ensures)

pub returns-in-4-clause-is : goal.returns-in-4-clause-is
returns-in-4-clause-is c =
    let r = c.args.regs.now in
    let e : ℕ → Operand = λ mode. operand_at (words_at c.args.ram.now r.pc) c.args.next.now c.args.size mode c.args.lower in
    found_moved r c.decrement.new.regs c.args.word c.args.size (e c.args.mode) _ c.args.lower _ c.args.next.now c.args.fault.now (λ i. (e (c.in-4.is i)).good) ((λ i. placed r (e (c.in-4.is i)).ea c.args.size) ∙ sym c.decrement.ensures) (λ i. (e (sym c.in-4.is i)).next)
    (ap (λ (p : Regs68 × Place68). p.0) c.decrement.ensures)

pub returns-in-4-clause-registers : goal.returns-in-4-clause-registers
returns-in-4-clause-registers c = (tt, c.requires.number)

pub returns-in-4-clause-writable : goal.returns-in-4-clause-writable
returns-in-4-clause-writable c = λ alterable. tt

pub returns-in-4-clause-back : goal.returns-in-4-clause-back
returns-in-4-clause-back c = moved_back c.args.regs.now c.decrement.new.regs c.args.lower _ (ap (λ (p : Regs68 × Place68). p.0) c.decrement.ensures)

pub returns-in_ok-place-in_default-clause-is : goal.returns-in_ok-place-in_default-clause-is
returns-in_ok-place-in_default-clause-is c =
    let found = c.in_ok-place-in_default.ensures.is in
    found_still c.args.regs.now c.args.word c.args.size (operand_at (words_at c.args.ram.now c.args.regs.now.pc) c.args.next.now c.args.size c.args.mode c.args.lower) c.in_ok-place-in_default.place c.args.lower c.place_alone.new.next c.place_alone.new.fault found.0 found.1 found.2

pub returns-in_ok-place-in_default-clause-registers : goal.returns-in_ok-place-in_default-clause-registers
returns-in_ok-place-in_default-clause-registers c = (c.in_ok-place-in_default.ensures.is.3, c.requires.number)

pub returns-in_ok-place-in_default-clause-back : goal.returns-in_ok-place-in_default-clause-back
returns-in_ok-place-in_default-clause-back c = address_kept c.args.regs.now c.args.lower
