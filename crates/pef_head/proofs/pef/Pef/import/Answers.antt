use Rattle.pef_head.proofs.Passed.{import_same}
use Rattle.pef_head.proofs.Views.{import_below}
use Rattle.pef_head.proofs.pef.Pef.import.Goals as goal

pub import_at-requires-clause-tables : goal.import_at-requires-clause-tables
import_at-requires-clause-tables c = c.self.invariant.tables

pub import_at-requires-clause-below : goal.import_at-requires-clause-below
import_at-requires-clause-below c = import_below c.self.inside.bytes.now c.args.self.now c.self.inside.loader c.args.i c.self.view_is c.self.invariant.is c.requires

pub import_at-requires-clause-owned : goal.import_at-requires-clause-owned
import_at-requires-clause-owned c =
    c.self.invariant.owned c.args.i (import_below c.self.inside.bytes.now c.args.self.now c.self.inside.loader c.args.i c.self.view_is c.self.invariant.is c.requires)

pub import_at-requires-clause-libraries : goal.import_at-requires-clause-libraries
import_at-requires-clause-libraries c = c.self.invariant.libraries

pub import_at-requires-clause-ends : goal.import_at-requires-clause-ends
import_at-requires-clause-ends c =
    c.self.invariant.symbols c.args.i (import_below c.self.inside.bytes.now c.args.self.now c.self.inside.loader c.args.i c.self.view_is c.self.invariant.is c.requires)

pub returns : goal.returns
returns c = import_same c.self.inside.bytes.now c.args.self.now c.self.inside.loader c.args.i _ c.self.view_is c.self.invariant.is c.import_at.ensures
