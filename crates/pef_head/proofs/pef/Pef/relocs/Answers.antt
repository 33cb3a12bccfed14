use Rattle.std.proofs.Common.{◌∙◌}
use Rattle.pef_head.proofs.Views.{header_same}
use Rattle.pef_head.proofs.pef.Pef.relocs.Goals as goal

pub header_for-requires : goal.header_for-requires
header_for-requires c = c.self.invariant.tables

pub relocs_by-requires-clause-below : goal.relocs_by-requires-clause-below
relocs_by-requires-clause-below c = c.requires

pub relocs_by-requires-clause-header : goal.relocs_by-requires-clause-header
relocs_by-requires-clause-header c =
    c.header_for.ensures.is ∙ header_same c.self.inside.bytes.now c.args.self.now c.self.inside.loader c.args.k c.self.view_is c.self.invariant.is

pub returns : goal.returns
returns c = record { is = c.relocs_by.ensures.is; even = c.relocs_by.ensures.even; small = c.relocs_by.ensures.small }
