-- What each shape answers goes back to the word, or the word is nothing's.
use Rattle.proc_info.proofs.Fields.{goes_back, goes_nowhere}
use Rattle.proc_info.proofs.reader.read.Goals as goal

pub returns-in-Stack-clause-back : goal.returns-in-Stack-clause-back
returns-in-Stack-clause-back c = goes_back c.args.w c.read_stack.result c.read_stack.ensures

pub returns-in-Stack-clause-none : goal.returns-in-Stack-clause-none
returns-in-Stack-clause-none c = goes_nowhere c.args.w c.read_stack.result c.read_stack.ensures

pub returns-in-Dispatched-clause-back : goal.returns-in-Dispatched-clause-back
returns-in-Dispatched-clause-back c = goes_back c.args.w c.read_dispatched.result c.read_dispatched.ensures

pub returns-in-Dispatched-clause-none : goal.returns-in-Dispatched-clause-none
returns-in-Dispatched-clause-none c = goes_nowhere c.args.w c.read_dispatched.result c.read_dispatched.ensures

pub returns-in-Registers-clause-back : goal.returns-in-Registers-clause-back
returns-in-Registers-clause-back c = goes_back c.args.w c.read_registers.result c.read_registers.ensures

pub returns-in-Registers-clause-none : goal.returns-in-Registers-clause-none
returns-in-Registers-clause-none c = goes_nowhere c.args.w c.read_registers.result c.read_registers.ensures
