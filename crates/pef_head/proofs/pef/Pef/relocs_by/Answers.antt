use Rattle.std.proofs.Common.{◌≡◌, ◌≤◌, ◌%◌, ◌^◌, ℕ, List, length, sym, subst, ◌∙◌}
use Rattle.pef_head.proofs.Loadable.{relocs_even, relocs_small}
use Rattle.pef_head.proofs.Views.{header_same, relocs_same}
use Rattle.pef_head.proofs.pef.Pef.relocs_by.Goals as goal

pub relocs_at-requires-clause-tables : goal.relocs_at-requires-clause-tables
relocs_at-requires-clause-tables c = c.self.invariant.tables

pub relocs_at-requires-clause-words : goal.relocs_at-requires-clause-words
relocs_at-requires-clause-words c = c.self.invariant.words

pub relocs_at-requires-clause-header : goal.relocs_at-requires-clause-header
relocs_at-requires-clause-header c =
    c.requires.header ∙ sym (header_same c.self.inside.bytes.now c.args.self.now c.self.inside.loader c.args.k c.self.view_is c.self.invariant.is)

pub returns-clause-is : goal.returns-clause-is
returns-clause-is c =
    c.relocs_at.ensures ∙ relocs_same c.self.inside.bytes.now c.args.self.now c.self.inside.loader c.args.k c.self.view_is c.self.invariant.is

pub returns-clause-even : goal.returns-clause-even
returns-clause-even c =
    let read = c.self.invariant in
    subst (λ (words : List ℕ). length words % 2 ≡ 0) (sym c.relocs_at.ensures)
    (relocs_even c.self.inside.bytes.now c.self.inside.loader c.args.k read.tables.end_fits read.words)

pub returns-clause-small : goal.returns-clause-small
returns-clause-small c =
    let read = c.self.invariant in
    subst (λ (words : List ℕ). length words ≤ 2 ^ 24) (sym c.relocs_at.ensures)
    (relocs_small c.self.inside.bytes.now c.self.inside.loader c.args.k read.tables.end_fits read.words read.headers.small)
