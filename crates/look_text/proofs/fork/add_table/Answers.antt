-- The table's line, and those of its entries.
use Rattle.std.proofs.Common.{◌≡◌, ◌∙◌, ◌/◌, ◌++◌, ℕ, Bool, true, OnOk, ap, sym, subst}
use Rattle.mix_load.specs.declared.header.CodeHeader.{CodeHeader}
use Rattle.mix_load.specs.Segments.{entry_count, has_table, header_of, table_start}
use Rattle.look_text.specs.Forks.{entries_text, table_line, table_text}
use Rattle.look_text.proofs.Lines.{two}
use Rattle.look_text.proofs.fork.add_table.Goals as goal

pub returns : goal.returns
returns c =
    let there : has_table c.args.code0.now ≡ true = sym c.in-Some.ensures.is in
    let at : c.table_start.result ≡ table_start (header_of c.args.code0.now) = c.table_start.ensures.is ∙ ap table_start c.in-Some.ensures.header in
    let count : c.in-Some.header.table_len / 8 ≡ entry_count c.args.code0.now = ap (λ (h : CodeHeader). h.table_len / 8) c.in-Some.ensures.header in
    subst (λ (is : Bool). OnOk c.add_entries.result (c.add_entries.new.text.items ≡ c.args.text.now.items ++ table_text c.args.fork.now c.args.places.now c.args.code0.now is)) (sym there)
    (two _ _ _ _ _ _
    (c.in_ok-add_table_line.ensures ∙ ap (λ (a : ℕ). c.args.text.now.items ++ table_line a (c.in-Some.header.table_len / 8)) at
    ∙ ap (λ (n : ℕ). c.args.text.now.items ++ table_line (table_start (header_of c.args.code0.now)) n) count)
    (subst (λ (n : ℕ). OnOk c.add_entries.result (c.add_entries.new.text.items ≡ c.add_table_line.new.text.items ++ entries_text c.args.fork.now c.args.places.now c.args.code0.now n)) count
    c.add_entries.ensures))
