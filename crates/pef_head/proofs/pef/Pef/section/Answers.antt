use Rattle.std.proofs.Common.{sym, subst}
use Rattle.pef_head.specs.PartsClauses.{IsLoadable}
use Rattle.pef_head.proofs.Loadable.{loadable}
use Rattle.pef_head.proofs.pef.Pef.section.Goals as goal

pub section_at-requires-clause-section : goal.section_at-requires-clause-section
section_at-requires-clause-section c = c.self.invariant.sections.instantiated c.args.k (rw c.self.view_is c.requires)

pub returns-clause-loadable : goal.returns-clause-loadable
returns-clause-loadable c =
    let read = c.self.invariant in
    subst IsLoadable (sym c.section_at.ensures)
    (loadable c.self.inside.bytes.now c.args.k (read.sections.instantiated c.args.k (rw c.self.view_is c.requires)) read.headers.small)
