-- Past the records that were read, the list is as it was made.
use Rattle.std.proofs.Common.{◌≡◌, ℕ, ◌+◌, ◌-◌, ◌≤◌, List, ◌++◌, length, take, drop, replicate, arith, ap, ◌∙◌}
use Rattle.std.proofs.lemmas.List.{drop_at, drop-replicate, take-replicate, length-replicate}
use Rattle.routine_desc.specs.declared.record.Rec.{Rec}
use Rattle.routine_desc.specs.LayoutClauses.{no_record}
use Rattle.routine_desc.proofs.records.read_body.Goals as goal

rest-empty : (new : List Rec) (rec : Rec) (count : ℕ) → length new ≡ count → rec ≡ no_record
    → drop count (new ++ drop count (replicate 64 rec)) ≡ replicate (64 - count) no_record
rest-empty new rec count long empty =
    drop_at new (drop count (replicate 64 rec)) count long ∙ drop-replicate count 64 rec ∙ ap (replicate (64 - count)) empty

room : (n : ℕ) (rec : Rec) → n ≤ 64 → length (take n (replicate 64 rec)) ≡ n
room n rec few = ap length (take-replicate n 64 rec few) ∙ length-replicate n rec

pub returns-in-Ok-clause-rest : goal.returns-in-Ok-clause-rest
returns-in-Ok-clause-rest c =
    let count = c.number-count.result + 1 in
    let few : count ≤ 64 = omega (arith, c.requires.few, c.number-count.ensures) in
    rest-empty c.read_all.new.recs c.empty-empty.result count (c.read_all.auto.recs ∙ room count c.empty-empty.result few) c.empty-empty.ensures
