use Rattle.binhex.proofs.Sixths.{text-back}
use Rattle.binhex.proofs.laws.text_law.Goals as goal

pub returns : goal.returns
returns c = text-back
