use Rattle.std.proofs.Common.{◌≡◌, ◌∙◌, ℕ, ◌<◌, length, slice_index, Vec, Global}
use Rattle.std.proofs.lemmas.Result.{IfOk-weaker}
use Rattle.pef_head.specs.inner.Owners.{HasOwners}
use Rattle.pef_head.specs.Parts.{import_count}
use Rattle.pef_head.specs.PartsByNumber.{library_of}
use Rattle.pef_head.proofs.Views.{count_same, owners_same}
use Rattle.pef_head.proofs.pef.Pef.owners.Goals as goal

pub owner_table-requires-clause-tables : goal.owner_table-requires-clause-tables
owner_table-requires-clause-tables c = c.self.invariant.tables

pub owner_table-requires-clause-owned : goal.owner_table-requires-clause-owned
owner_table-requires-clause-owned c = c.self.invariant.owned

pub returns-clause-is : goal.returns-clause-is
returns-clause-is c =
    let bytes = c.self.inside.bytes.now in
    let l = c.self.inside.loader in
    IfOk-weaker c.owner_table.result (λ (table : Vec ℕ Global). HasOwners bytes l l.libraries table.items)
    (λ (table : Vec ℕ Global). (i : ℕ) → i < import_count c.args.self.now → slice_index table.items i ≡ library_of c.args.self.now i)
    (λ table filled. owners_same bytes c.args.self.now l table.items c.self.view_is c.self.invariant.is filled) c.owner_table.ensures.filled

pub returns-clause-len : goal.returns-clause-len
returns-clause-len c =
    let bytes = c.self.inside.bytes.now in
    let l = c.self.inside.loader in
    IfOk-weaker c.owner_table.result (λ (table : Vec ℕ Global). length table.items ≡ l.symbols) (λ (table : Vec ℕ Global). length table.items ≡ import_count c.args.self.now)
    (λ table room. room ∙ count_same bytes c.args.self.now l c.self.view_is c.self.invariant.is) c.owner_table.ensures.room
