use Rattle.std.proofs.Common.{arith}
use Rattle.std.proofs.lemmas.Result.{err_from_is_err_and}
use Rattle.binhex.proofs.Reaching.{first_at, one_more, refused_at}
use Rattle.binhex.proofs.runs.measure.Goals as goal

pub loop-k-init : goal.loop-k-init
loop-k-init c = rw c.none-run.ensures (record { reached = first_at c.args.packed.now; few = omega arith })

pub returns-in_err-count : goal.returns-in_err-count
returns-in_err-count c =
    let p = err_from_is_err_and c.from_residual.result c.from_residual.ensures.1 in
    rw (p.1, p.2) (refused_at c.args.packed.now c.loop-k.k c.loop-k.run c.loop-k.count _ c.loop-k-test.true c.loop-k.invariant.reached c.loop-k.invariant.few c.in_err-count.ensures.takes)

pub loop-k-preserved : goal.loop-k-preserved
loop-k-preserved c = record {
  reached = rw c.behind-run.ensures (one_more c.args.packed.now c.loop-k.k c.loop-k.run c.loop-k.count c.in_ok-count.count c.loop-k-test.true c.loop-k.invariant.reached c.in_ok-count.ensures.takes.0 c.in_ok-count.ensures.takes.1);
  few = c.in_ok-count.ensures.few;
}
