use Rattle.std.proofs.Common.{sym, ◌∙◌}
use Rattle.ppc_isa.proofs.Found.{answer_in_range, answer_stands}
use Rattle.ppc_isa.proofs.decode.decode_ppc.Goals as goal

pub returns-clause-stands : goal.returns-clause-stands
returns-clause-stands c = answer_stands _ _ c.ranges.word.fits (c.instruction_of.ensures ∙ sym c.op_of.ensures.makes)

pub returns-clause-in_range : goal.returns-clause-in_range
returns-clause-in_range c = answer_in_range _ _ c.ranges.word.fits (c.instruction_of.ensures ∙ sym c.op_of.ensures.makes)
