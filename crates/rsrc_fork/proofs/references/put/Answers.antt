use Rattle.std.proofs.Common.{◌∙◌, ap, Ok, rules, sym}
use Rattle.indexmap.proofs.CallerLemmas.{insert_entry-new}
use Rattle.rsrc_fork.specs.ResourcesClauses.{seen}
use Rattle.rsrc_fork.proofs.Lookups.{found_new, found_twice}
use Rattle.rsrc_fork.proofs.references.put.Goals as goal

pub returns-in-Some : goal.returns-in-Some
returns-in-Some c = λ _.
    found_twice c.args.name c.args.resources.now.entries c.args.piece _ (sym c.in_ok-insert.ensures.old ∙ c.in-Some.is)
    ∙ search rules

pub returns-in-None : goal.returns-in-None
returns-in-None c =
    let none = sym c.in_ok-insert.ensures.old ∙ c.in-None.is in
    found_new c.args.name c.args.resources.now.entries c.args.piece none
    ∙ ap (λ entries. Ok (seen entries))
    (sym (c.in_ok-insert.ensures.entries ∙ insert_entry-new _ c.args.resources.now c.args.name c.args.piece none))
