use Rattle.std.proofs.Common.{ℕ, ap, ◌∙◌, ◌+◌}
use Rattle.std.proofs.lemmas.Result.{err_from_is_err_and}
use Rattle.mix_load.specs.Segments.{a5_of, table_start}
use Rattle.mix_load.proofs.Forks.{codes-fail, codes-load, codes-whole, fork-image-is}
use Rattle.mix_load.proofs.fork.add_codes.Goals as goal

pub returns-in_err-codes-clause-is : goal.returns-in_err-codes-clause-is
returns-in_err-codes-clause-is c =
    let p = err_from_is_err_and c.from_residual.result c.from_residual.ensures.1 in
    rw (p.1, p.2) (λ real. codes-fail c.args.ids c.floor.result c.args.fork.now c.args.code0.now c.args.image _ c.floor.ensures c.in_err-codes.ensures.refusal)

pub returns-clause-is : goal.returns-clause-is
returns-clause-is c =
    codes-load c.args.ids c.floor.result c.args.fork.now c.args.code0.now c.args.image _ c.floor.ensures c.in_ok-codes.ensures.refusal
    (fork-image-is c.args.ids c.args.fork.now c.args.code0.now c.args.image c.put_codes.new.ram c.in_ok-codes.codes.end _ _
    c.in_ok-put_codes.ensures.memory c.in_ok-codes.ensures.end
    (ap (λ (n : ℕ). n + 2) (c.table_start.ensures.is ∙ ap table_start c.in_ok-codes.ensures.header)) (c.a5_of.ensures.is ∙ ap a5_of c.in_ok-codes.ensures.header))

pub returns-clause-whole : goal.returns-clause-whole
returns-clause-whole c =
    codes-whole c.args.ids c.floor.result c.args.fork.now c.args.code0.now c.args.image _ c.floor.ensures c.in_ok-codes.ensures.room c.requires.whole
    (fork-image-is c.args.ids c.args.fork.now c.args.code0.now c.args.image c.put_codes.new.ram c.in_ok-codes.codes.end _ _
    c.in_ok-put_codes.ensures.memory c.in_ok-codes.ensures.end
    (ap (λ (n : ℕ). n + 2) (c.table_start.ensures.is ∙ ap table_start c.in_ok-codes.ensures.header)) (c.a5_of.ensures.is ∙ ap a5_of c.in_ok-codes.ensures.header))
