use Rattle.pef_reloc.proofs.Pieces.{unpacks_pieces}
use Rattle.pef_reloc.proofs.laws.pattern_laws.Goals as goal

pub returns : goal.returns
returns c = unpacks_pieces
