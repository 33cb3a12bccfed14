use Rattle.asm_m68.proofs.Complete.{name_exactly, operands_exactly, words_exactly}
use Rattle.asm_m68.proofs.assembler.assemble68.Goals as goal

pub returns-clause-words : goal.returns-clause-words
returns-clause-words c = words_exactly c.args.line.now c.args.at c.assemble_line.result c.ranges.at.fits c.assemble_line.ensures.value

pub returns-clause-name : goal.returns-clause-name
returns-clause-name c = name_exactly c.args.line.now c.args.at c.assemble_line.result c.assemble_line.ensures.value

pub returns-clause-operands : goal.returns-clause-operands
returns-clause-operands c = operands_exactly c.args.line.now c.args.at c.assemble_line.result c.ranges.at.fits c.assemble_line.ensures.value
