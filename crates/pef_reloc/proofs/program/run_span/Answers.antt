use Rattle.std.proofs.Common.{◌+◌, ◌∙◌, ap, arith, sym}
use Rattle.std.proofs.lemmas.Result.{err_from_is_err_and}
use Rattle.pef_reloc.specs.inner.Held.{sources_of, state_of}
use Rattle.pef_reloc.specs.Program.{each, width}
use Rattle.pef_reloc.specs.inner.Program.{run_in_span}
use Rattle.pef_reloc.proofs.Each.{each_next, each_err, each_end}
use Rattle.pef_reloc.proofs.program.run_span.Goals as goal

pub returns-in_err-run_in_span-clause-is : goal.returns-in_err-run_in_span-clause-is
returns-in_err-run_in_span-clause-is c =
    let p = err_from_is_err_and c.from_residual.result c.from_residual.ensures.1 in
    rw (p.1, p.2) (each_err c.args.span.now (run_in_span (sources_of c.args.target) c.args.span.now) c.loop-place.place (state_of c.args.target c.loop-place.ram c.loop-place.cursor) _ c.loop-place-test.true
    c.in_err-run_in_span.ensures.is ∙ c.loop-place.invariant.same)

pub loop-place-preserved : goal.loop-place-preserved
loop-place-preserved c = record {
  same = ap (λ n. each c.args.span.now (run_in_span (sources_of c.args.target) c.args.span.now) (c.loop-place.place + n) (state_of c.args.target c.run_in_span.new.ram c.run_in_span.new.cursor)) (c.width-place.ensures.is ∙ ap width c.first_at-first.ensures)
      ∙ each_next c.args.span.now (run_in_span (sources_of c.args.target) c.args.span.now) c.loop-place.place (state_of c.args.target c.loop-place.ram c.loop-place.cursor)
      (state_of c.args.target c.run_in_span.new.ram c.run_in_span.new.cursor) c.loop-place-test.true c.in_ok-run_in_span.ensures.is ∙ c.loop-place.invariant.same;
  near = omega (arith, c.width-place.ensures.few);
  outside = c.in_ok-run_in_span.ensures.outside ∙ c.loop-place.invariant.outside;
  len = c.in_ok-run_in_span.ensures.len ∙ c.loop-place.invariant.len;
  bound = omega (arith, c.in_ok-run_in_span.ensures.bound);
}

pub returns-clause-is : goal.returns-clause-is
returns-clause-is c =
    sym (each_end c.args.span.now (run_in_span (sources_of c.args.target) c.args.span.now) c.loop-place.place (state_of c.args.target c.loop-place.ram c.loop-place.cursor) c.loop-place-test.false)
    ∙ c.loop-place.invariant.same
