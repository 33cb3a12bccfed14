use Rattle.std.proofs.Common.{sym, ◌∙◌}
use Rattle.big_memory.specs.declared.steps.Did.TheVariants.{Next, Leave, Stop}
use Rattle.mix_engine.proofs.Codes.{code-68k}
use Rattle.mix_engine.proofs.code.code_68k.Goals as goal

pub returns-in-Next-clause-codes : goal.returns-in-Next-clause-codes
returns-in-Next-clause-codes c =
    code-68k Next c.core_68k.new.fault c.args.regs.now c.core_68k.new.regs c.args.body.now c.core_68k.new.body (sym c.is_in_page.ensures ∙ c.if-is_in_page.false) c.in-Next.ensures.line c.in-Next.ensures.does

pub returns-in-Leave-clause-codes : goal.returns-in-Leave-clause-codes
returns-in-Leave-clause-codes c =
    code-68k Leave c.core_68k.new.fault c.args.regs.now c.core_68k.new.regs c.args.body.now c.core_68k.new.body (sym c.is_in_page.ensures ∙ c.if-is_in_page.false) c.in-Leave.ensures.line c.in-Leave.ensures.does

pub returns-in-Stop-clause-codes : goal.returns-in-Stop-clause-codes
returns-in-Stop-clause-codes c =
    code-68k Stop c.core_68k.new.fault c.args.regs.now c.core_68k.new.regs c.args.body.now c.core_68k.new.body (sym c.is_in_page.ensures ∙ c.if-is_in_page.false) c.in-Stop.ensures.line c.in-Stop.ensures.does
