use Rattle.rsrc_fork.proofs.Ids.{seen_end}
use Rattle.rsrc_fork.proofs.lookup.ids_end.Goals as goal

pub returns : goal.returns
returns c = seen_end c.args.kind c.args.resources.now.entries c.end_of.result c.requires c.end_of.ensures
