use Rattle.std.proofs.lemmas.Result.{err_from_is_err_and}
use Rattle.rsrc_fork.specs.inner.References.{with_numbered}
use Rattle.rsrc_fork.specs.ResourcesClauses.{seen}
use Rattle.rsrc_fork.proofs.Steps.{failed_below}
use Rattle.rsrc_fork.proofs.references.add_references.Goals as goal

pub returns-in_err-add_reference : goal.returns-in_err-add_reference
returns-in_err-add_reference c =
    let p = err_from_is_err_and c.from_residual.result c.from_residual.ensures.1 in
    rw (p.1, p.2) (λ real. failed_below (with_numbered c.args.bytes.now c.args.areas c.args.entry) (seen c.args.resources.now.entries)
    _ c.loop-j.j (seen c.loop-j.resources.entries) _ c.loop-j-test.true c.loop-j.invariant (c.in_err-add_reference.ensures real))
