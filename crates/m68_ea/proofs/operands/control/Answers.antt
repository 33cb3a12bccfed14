use Rattle.std.proofs.Common.{ℕ, ap, Option, Some, None}
use Rattle.mix_bits.specs.declared.size.Size.{Size}
use Rattle.mix_bits.specs.declared.size.Size.TheVariants.{Zero, Two, Four}
use Rattle.mix_bits.specs.declared.fault.Fault.{Fault}
use Rattle.m68_isa.specs.declared.registers.Regs68.{Regs68}
use Rattle.m68_isa.specs.declared.operand.Operand.{Operand}
use Rattle.m68_isa.specs.Operands.{operand_at}
use Rattle.m68_ea.specs.declared.places.Place68.{Place68}
use Rattle.m68_ea.specs.Places.{address_in}
use Rattle.m68_ea.specs.Words.{words_at}
use Rattle.m68_ea.specs.FindsClauses.{FindsAddress, FindsControl}
use Rattle.m68_ea.proofs.operands.control.Goals as goal

controls : (r : Regs68) (first : ℕ) (e : Size → Operand) (s : Size) (result : Option ℕ) (next : ℕ) (cell : Fault)
    → FindsAddress r first e result next cell → FindsControl r first (e s) result next cell
controls r first e s (Some a) next cell h =
    let found = h s Zero in (found.0, ap (λ (p : Regs68 × Place68). address_in p.1) found.1, found.2)
controls r first e s None next cell h = h s s

at-size : (c : goal.After-address) (s : Size)
    → FindsControl c.args.regs.now c.args.word (operand_at (words_at c.args.ram.now c.args.regs.now.pc) c.args.next.now s c.args.mode c.args.lower)
    c.address.result c.address.new.next c.address.new.fault
at-size c s =
    controls c.args.regs.now c.args.word
    (λ t. operand_at (words_at c.args.ram.now c.args.regs.now.pc) c.args.next.now t c.args.mode c.args.lower)
    s c.address.result c.address.new.next c.address.new.fault c.address.ensures.is

pub returns-clause-word : goal.returns-clause-word
returns-clause-word c = at-size c Two

pub returns-clause-long : goal.returns-clause-long
returns-clause-long c = at-size c Four
