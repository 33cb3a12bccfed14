use Rattle.m68_ea.proofs.Numbers.{has_numbers}
use Rattle.m68_ea.proofs.laws.operand_law.Goals as goal

pub returns : goal.returns
returns c = has_numbers c.args.ea c.requires
