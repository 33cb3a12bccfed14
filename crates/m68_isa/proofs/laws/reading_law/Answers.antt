use Rattle.m68_isa.proofs.Whole.{kept}
use Rattle.m68_isa.proofs.laws.reading_law.Goals as goal

pub returns : goal.returns
returns c = kept c.args.word
