use Rattle.std.proofs.Common.{arith}
use Rattle.std.proofs.lemmas.Grind.{common_steps}
use Rattle.std.proofs.lemmas.Result.{err_from_is_err_and}
use Rattle.binhex.proofs.Puts.{put_front, put_more}
use Rattle.binhex.proofs.expanded.Expanded.put.Goals as goal

pub loop-done-preserved : goal.loop-done-preserved
loop-done-preserved g c = record {
  fits = omega arith;
  rest = grind (arith, common_steps);
  bytes = put_more _ _ _ _ _ c.loop-done.done _ c.loop-done.invariant.rest c.loop-done.invariant.bytes c.in_ok-put_next.ensures.put;
}

pub returns-in_err-put_next : goal.returns-in_err-put_next
returns-in_err-put_next g c =
    let p = err_from_is_err_and c.from_residual.result c.from_residual.ensures.1 in
    rw p.1 (put_front _ _ _ _ _ _ c.args.place.start c.args.place.length c.loop-done.done _ c.rest_at-rest.ensures c.loop-done.invariant.rest c.requires
    (omega arith) c.loop-done.invariant.bytes c.in_err-put_next.ensures.put)
