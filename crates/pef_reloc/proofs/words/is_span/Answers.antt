use Rattle.std.proofs.Common.{◌≡◌, ◌+◌, ℕ, List, Result, Bool, true, false, Ok, Err, if◌then◌else◌, arith, refl, ap, sym, ◌∙◌}
use Rattle.std.specs.Result.{is_ok}
use Rattle.pef_reloc.specs.Program.{each, width, fits_in}
use Rattle.pef_reloc.specs.inner.Program.{fill_span}
use Rattle.pef_reloc.proofs.Each.{each_next, each_end, each_err}
use Rattle.pef_reloc.proofs.words.is_span.Goals as goal

filled : (span : List ℕ) (place : ℕ) → fits_in span place ≡ true → Ok true ≡ fill_span span place true
filled span place fits = let outcome : Bool → Result Bool Bool = λ t. if t then Ok true else Err true in sym (ap outcome fits)

failed : (span : List ℕ) (place : ℕ) → false ≡ fits_in span place → Err true ≡ fill_span span place true
failed span place fits = let outcome : Bool → Result Bool Bool = λ t. if t then Ok true else Err true in ap outcome fits

pub loop-place-preserved : goal.loop-place-preserved
loop-place-preserved c =
    let span = c.args.span.now in
    let fits : fits_in span c.loop-place.place ≡ true = sym c.fits_in.ensures ∙ c.if-not-fits_in.false in
    let done : Ok true ≡ fill_span span c.loop-place.place true = filled span c.loop-place.place fits in
    record {
      same = ap (λ n. is_ok (each span (fill_span span) (c.loop-place.place + n) true)) (c.width-place.ensures.is ∙ ap width c.first_at-first.ensures)
          ∙ ap is_ok (each_next span (fill_span span) c.loop-place.place true true c.loop-place-test.true done) ∙ c.loop-place.invariant.same;
      near = omega (arith, c.width-place.ensures.few);
    }

pub returns : goal.returns
returns c =
    sym (ap is_ok (each_end c.args.span.now (fill_span c.args.span.now) c.loop-place.place true c.loop-place-test.false)) ∙ c.loop-place.invariant.same

pub returns-then-not-fits_in : goal.returns-then-not-fits_in
returns-then-not-fits_in c =
    let span = c.args.span.now in
    let refused : Err true ≡ fill_span span c.loop-place.place true = failed span c.loop-place.place c.if-not-fits_in.ensures in
    ap is_ok (each_err span (fill_span span) c.loop-place.place true true c.loop-place-test.true refused) ∙ c.loop-place.invariant.same

pub loop-place-init : goal.loop-place-init
loop-place-init c = record { same = refl; near = omega arith }

pub loop-place-smaller : goal.loop-place-smaller
loop-place-smaller c = omega (arith, c.width-place.ensures.some, c.loop-place-test.true)
