use Rattle.pef_head.proofs.Passed.{import_cut}
use Rattle.pef_head.proofs.Views.{import_below, owner_same}
use Rattle.pef_head.proofs.pef.Pef.import_within.Goals as goal

pub import_within-requires-clause-tables : goal.import_within-requires-clause-tables
import_within-requires-clause-tables c = c.self.invariant.tables

pub import_within-requires-clause-below : goal.import_within-requires-clause-below
import_within-requires-clause-below c =
    import_below c.self.inside.bytes.now c.args.self.now c.self.inside.loader c.args.i c.self.view_is c.self.invariant.is c.requires.below

pub import_within-requires-clause-owned : goal.import_within-requires-clause-owned
import_within-requires-clause-owned c =
    c.self.invariant.owned c.args.i (import_below c.self.inside.bytes.now c.args.self.now c.self.inside.loader c.args.i c.self.view_is c.self.invariant.is c.requires.below)

pub import_within-requires-clause-owner : goal.import_within-requires-clause-owner
import_within-requires-clause-owner c =
    owner_same c.self.inside.bytes.now c.args.self.now c.self.inside.loader c.args.i c.args.owner c.self.view_is c.self.invariant.is c.requires.owner

pub import_within-requires-clause-libraries : goal.import_within-requires-clause-libraries
import_within-requires-clause-libraries c = c.self.invariant.libraries

pub import_within-requires-clause-ends : goal.import_within-requires-clause-ends
import_within-requires-clause-ends c =
    c.self.invariant.symbols c.args.i (import_below c.self.inside.bytes.now c.args.self.now c.self.inside.loader c.args.i c.self.view_is c.self.invariant.is c.requires.below)

pub returns : goal.returns
returns c = import_cut c.self.inside.bytes.now c.args.self.now c.self.inside.loader c.args.i c.args.most _ c.self.view_is c.self.invariant.is c.import_within.ensures
