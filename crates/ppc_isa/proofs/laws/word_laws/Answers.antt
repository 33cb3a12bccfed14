use Rattle.ppc_isa.proofs.Apart.{rows_are_apart}
use Rattle.ppc_isa.proofs.Found.{decoded_stands}
use Rattle.ppc_isa.proofs.laws.word_laws.Goals as goal

pub returns : goal.returns
returns c = record { stands = decoded_stands; apart = rows_are_apart }
