-- The assemblers answer as they promise.
use Rattle.mix_text.proofs.Instructions.{refused-68k, refused-ppc, word-ppc, words-68k}
use Rattle.mix_text.proofs.line.assemble_instruction.Goals as goal

pub returns-in-Ok-clause-bytes : goal.returns-in-Ok-clause-bytes
returns-in-Ok-clause-bytes c = rw c.in-M68.is (words-68k c.args.line.now c.args.at c.in-Ok.code _ c.in-Ok.ensures.words c.bytes_of.ensures)

pub returns-in-Err-clause-refused : goal.returns-in-Err-clause-refused
returns-in-Err-clause-refused c =
    rw c.in-M68.is (refused-68k c.args.line.now c.args.at c.in-Err.error _ c.in-Err.ensures.name c.in-Err.ensures.operands c.reason_m68.ensures)

pub returns-in-Ok-assemble_ppc-clause-bytes : goal.returns-in-Ok-assemble_ppc-clause-bytes
returns-in-Ok-assemble_ppc-clause-bytes c =
    rw c.in-Ppc.is
    (word-ppc c.args.line.now c.args.at c.in-Ok-assemble_ppc.word _ c.in-Ok-assemble_ppc.ensures.word c.bytes_of_long.ensures)

pub returns-in-Err-assemble_ppc-clause-refused : goal.returns-in-Err-assemble_ppc-clause-refused
returns-in-Err-assemble_ppc-clause-refused c =
    rw c.in-Ppc.is
    (refused-ppc c.args.line.now c.args.at c.in-Err-assemble_ppc.error _ c.in-Err-assemble_ppc.ensures.name c.in-Err-assemble_ppc.ensures.operands
    c.reason_ppc.ensures)
