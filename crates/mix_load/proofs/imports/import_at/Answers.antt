use Rattle.std.proofs.Common.{ap, ◌∙◌}
use Rattle.pef_head.specs.Parts.{import_of}
use Rattle.mix_load.specs.Sections.{import_address}
use Rattle.mix_load.proofs.Cuts.{cut_address}
use Rattle.mix_load.proofs.imports.import_at.Goals as goal

pub returns : goal.returns
returns c = c.address_of.ensures ∙ (ap import_address c.import_within.ensures ∙ cut_address (import_of c.args.pef.now c.args.i))
