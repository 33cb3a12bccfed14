use Rattle.std.proofs.Common.{[]}
use Rattle.std.proofs.lemmas.Result.{err_from_is_err_and}
use Rattle.rsrc_fork.specs.References.{with_type}
use Rattle.rsrc_fork.specs.ResourcesClauses.{seen}
use Rattle.rsrc_fork.proofs.Steps.{failed_below}
use Rattle.rsrc_fork.proofs.references.add_types.Goals as goal

pub returns-in_err-add_type : goal.returns-in_err-add_type
returns-in_err-add_type c =
    let p = err_from_is_err_and c.from_residual.result c.from_residual.ensures.1 in
    rw (p.1, p.2) (λ real. failed_below (with_type c.args.bytes.now c.args.areas c.args.list) []
    _ c.loop-k.k (seen c.loop-k.resources.entries) _ c.loop-k-test.true c.loop-k.invariant (c.in_err-add_type.ensures real))
