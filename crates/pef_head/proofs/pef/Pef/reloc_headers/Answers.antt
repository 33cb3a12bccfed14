use Rattle.std.proofs.Common.{◌≡◌, ◌∙◌, ap, ℕ, length, List, Option, Vec, Global}
use Rattle.std.proofs.lemmas.Result.{IfOk-weaker}
use Rattle.pef_head.specs.Container.{instantiated_count}
use Rattle.pef_head.proofs.Views.{headers_same}
use Rattle.pef_head.proofs.pef.Pef.reloc_headers.Goals as goal

pub header_table-requires : goal.header_table-requires
header_table-requires c = c.self.invariant.tables

pub returns-clause-is : goal.returns-clause-is
returns-clause-is c =
    headers_same c.self.inside.bytes.now c.args.self.now c.self.inside.loader c.instantiated_count-sections.result c.header_table.result c.self.view_is c.self.invariant.is
    c.instantiated_count-sections.ensures c.header_table.ensures.noted c.header_table.ensures.len

pub returns-clause-len : goal.returns-clause-len
returns-clause-len c =
    let bytes = c.self.inside.bytes.now in
    IfOk-weaker c.header_table.result (λ (table : Vec (Option ℕ) Global). length table.items ≡ c.instantiated_count-sections.result)
    (λ (table : Vec (Option ℕ) Global). length table.items ≡ instantiated_count c.args.self.now)
    (λ table room. room ∙ (c.instantiated_count-sections.ensures ∙ ap (λ (n : List ℕ). instantiated_count n) c.self.view_is)) c.header_table.ensures.len
