use Rattle.dev_rack.proofs.Seen.{heard_at}
use Rattle.dev_rack.proofs.slots.ask_at.Goals as goal

pub returns : goal.returns
returns g c = heard_at _ _ _ _ _ _ _ _ _ c.requires c.in-Some.is c.ask.ensures
