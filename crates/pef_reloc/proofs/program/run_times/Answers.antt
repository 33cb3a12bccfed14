use Rattle.std.proofs.Common.{◌∙◌, arith}
use Rattle.std.proofs.lemmas.Result.{err_from_is_err_and}
use Rattle.pef_reloc.specs.inner.Held.{sources_of, state_of}
use Rattle.pef_reloc.proofs.Repeats.{times_ok, times_err}
use Rattle.pef_reloc.proofs.program.run_times.Goals as goal

pub returns-in_err-run_span-clause-is : goal.returns-in_err-run_span-clause-is
returns-in_err-run_span-clause-is c =
    let p = err_from_is_err_and c.from_residual.result c.from_residual.ensures.1 in
    rw (p.1, p.2) (times_err (sources_of c.args.target) c.args.span.now c.args.times c.loop-turn._turn (state_of c.args.target c.loop-turn.ram c.loop-turn.cursor) _ c.loop-turn-test.true
    c.in_err-run_span.ensures.is ∙ c.loop-turn.invariant.same)

pub loop-turn-preserved : goal.loop-turn-preserved
loop-turn-preserved c = record {
  same = times_ok (sources_of c.args.target) c.args.span.now c.args.times c.loop-turn._turn (state_of c.args.target c.loop-turn.ram c.loop-turn.cursor)
      (state_of c.args.target c.run_span.new.ram c.run_span.new.cursor) c.loop-turn-test.true c.in_ok-run_span.ensures.is ∙ c.loop-turn.invariant.same;
  outside = c.in_ok-run_span.ensures.outside ∙ c.loop-turn.invariant.outside;
  len = c.in_ok-run_span.ensures.len ∙ c.loop-turn.invariant.len;
  bound = omega (arith, c.in_ok-run_span.ensures.bound);
}
