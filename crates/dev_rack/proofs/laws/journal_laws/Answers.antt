use Rattle.dev_rack.proofs.Steps.{accounts-none, accounts-ask, accounts-eject, accounts-join}
use Rattle.dev_rack.proofs.laws.journal_laws.Goals as goal

pub returns : goal.returns
returns c = record { begins = accounts-none; asks = accounts-ask; ejects = accounts-eject; joins = accounts-join }
