use Rattle.dev_rack.proofs.Seen.{emptied}
use Rattle.dev_rack.proofs.slots.empty_at.Goals as goal

pub returns : goal.returns
returns g c = emptied _ _ _ _
