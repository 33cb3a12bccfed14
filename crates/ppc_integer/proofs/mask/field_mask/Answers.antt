use Rattle.ppc_integer.proofs.MaskLemmas.{fields_are}
use Rattle.ppc_integer.proofs.mask.field_mask.Goals as goal

pub returns : goal.returns
returns c = fields_are c.args.fields c.requires
