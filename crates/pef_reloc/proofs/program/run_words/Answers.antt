use Rattle.std.proofs.Common.{◌+◌, ◌∙◌, ap, arith, sym}
use Rattle.std.proofs.lemmas.Result.{err_from_is_err_and}
use Rattle.pef_reloc.specs.inner.Held.{sources_of, state_of}
use Rattle.pef_reloc.specs.Program.{each, width}
use Rattle.pef_reloc.specs.inner.Program.{run_at}
use Rattle.pef_reloc.proofs.Each.{each_next, each_err, each_end}
use Rattle.pef_reloc.proofs.program.run_words.Goals as goal

pub returns-in_err-run_at-clause-is : goal.returns-in_err-run_at-clause-is
returns-in_err-run_at-clause-is c =
    let p = err_from_is_err_and c.from_residual.result c.from_residual.ensures.1 in
    rw (p.1, p.2) (each_err c.args.words.now (run_at (sources_of c.args.target) c.args.words.now) c.loop-place.place (state_of c.args.target c.loop-place.ram c.loop-place.cursor) _ c.loop-place-test.true
    c.in_err-run_at.ensures.is ∙ c.loop-place.invariant.same)

pub loop-place-preserved : goal.loop-place-preserved
loop-place-preserved c = record {
  same = ap (λ n. each c.args.words.now (run_at (sources_of c.args.target) c.args.words.now) (c.loop-place.place + n) (state_of c.args.target c.run_at.new.ram c.run_at.new.cursor)) (c.width-place.ensures.is ∙ ap width c.first_at-first.ensures)
      ∙ each_next c.args.words.now (run_at (sources_of c.args.target) c.args.words.now) c.loop-place.place (state_of c.args.target c.loop-place.ram c.loop-place.cursor)
      (state_of c.args.target c.run_at.new.ram c.run_at.new.cursor) c.loop-place-test.true c.in_ok-run_at.ensures.is ∙ c.loop-place.invariant.same;
  near = omega (arith, c.width-place.ensures.few);
  outside = c.in_ok-run_at.ensures.outside ∙ c.loop-place.invariant.outside;
  len = c.in_ok-run_at.ensures.len ∙ c.loop-place.invariant.len;
  bound = omega (arith, c.in_ok-run_at.ensures.bound);
}

pub returns-clause-is : goal.returns-clause-is
returns-clause-is c =
    sym (each_end c.args.words.now (run_at (sources_of c.args.target) c.args.words.now) c.loop-place.place (state_of c.args.target c.loop-place.ram c.loop-place.cursor) c.loop-place-test.false)
    ∙ c.loop-place.invariant.same
