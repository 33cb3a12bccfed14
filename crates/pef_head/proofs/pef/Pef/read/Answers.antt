use Rattle.std.proofs.Common.{sym, ◌∙◌}
use Rattle.std.proofs.lemmas.Result.{err_from_is_err_and}
use Rattle.pef_head.proofs.Flat.{flat}
use Rattle.pef_head.proofs.Passed.{is_read}
use Rattle.pef_head.proofs.Whole.{container_is, no_container}
use Rattle.pef_head.proofs.pef.Pef.read.Goals as goal

pub invariant_of-result : goal.invariant_of-result
invariant_of-result c =
    let facts = c.in_ok-loader.ensures in
    is_read c.args.bytes.now c.in_ok-loader.loader (sym facts.refusal) facts.is facts.headers facts.sections facts.tables

pub returns-clause-container : goal.returns-clause-container
returns-clause-container c = container_is c.args.bytes.now (sym c.in_ok-loader.ensures.refusal)

pub returns-in_err-loader-clause-refused : goal.returns-in_err-loader-clause-refused
returns-in_err-loader-clause-refused c =
    let p = err_from_is_err_and c.from_residual.result c.from_residual.ensures.1 in
    rw p.1 (no_container c.args.bytes.now _ (sym c.in_err-loader.ensures.refusal))

pub returns-clause-refusal : goal.returns-clause-refusal
returns-clause-refusal c = c.in_ok-loader.ensures.refusal ∙ flat c.args.bytes.now

pub returns-in_err-loader-clause-refusal : goal.returns-in_err-loader-clause-refusal
returns-in_err-loader-clause-refusal c =
    let p = err_from_is_err_and c.from_residual.result c.from_residual.ensures.1 in
    rw (p.1, p.2) (c.in_err-loader.ensures.refusal ∙ flat c.args.bytes.now)
