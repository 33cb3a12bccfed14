use Rattle.asm_ppc.proofs.Complete.{name_exactly, operands_exactly, word_exactly}
use Rattle.asm_ppc.proofs.assembler.assemble_ppc.Goals as goal

pub returns-clause-word : goal.returns-clause-word
returns-clause-word c = word_exactly c.args.line.now c.args.at c.assemble_line.result c.ranges.at.fits c.assemble_line.ensures

pub returns-clause-name : goal.returns-clause-name
returns-clause-name c = name_exactly c.args.line.now c.args.at c.assemble_line.result c.assemble_line.ensures

pub returns-clause-operands : goal.returns-clause-operands
returns-clause-operands c = operands_exactly c.args.line.now c.args.at c.assemble_line.result c.ranges.at.fits c.assemble_line.ensures
