use Rattle.std.proofs.Common.{◌≡◌, ℕ, ◌∷◌, [], ◌++◌, add-one, le_antisymm, List, refl, ap, subst, ◌∙◌}
use Rattle.std.proofs.lemmas.Result.{err_from_is_err_and}
use Rattle.pef_head.specs.Parts.{SectionParts}
use Rattle.mix_load.specs.SectionsClauses.{bases}
use Rattle.mix_load.specs.inner.Sections.{totals}
use Rattle.mix_load.proofs.Next.{base-is, base-small, end-small, next-end, section-near}
use Rattle.mix_load.proofs.sections.place_first.Goals as goal

pub base_behind-base-requires-clause-near : goal.base_behind-base-requires-clause-near
base_behind-base-requires-clause-near c =
    section-near c.args.pef.now c.args.start c.loop-k.k c.args.count c.loop-k.end c.loop-k-test.true c.requires.fits c.loop-k.invariant.end

pub base_behind-base-requires-clause-aligned : goal.base_behind-base-requires-clause-aligned
base_behind-base-requires-clause-aligned c = c.section-section.ensures.loadable.aligned

pub overflow_cast-base : goal.overflow_cast-base
overflow_cast-base c =
    base-small c.args.pef.now c.args.start c.loop-k.k c.args.count c.base_behind-base.result c.loop-k-test.true c.requires.fits
    (base-is c.args.pef.now c.args.start c.loop-k.k c.loop-k.end _ _ c.base_behind-base.ensures.is c.section-section.ensures.is c.loop-k.invariant.end)

pub overflow_add-end : goal.overflow_add-end
overflow_add-end c =
    end-small c.args.pef.now c.args.start c.loop-k.k c.args.count c.base_behind-base.result c.section-section.result.total c.loop-k-test.true c.requires.fits
    (base-is c.args.pef.now c.args.start c.loop-k.k c.loop-k.end _ _ c.base_behind-base.ensures.is c.section-section.ensures.is c.loop-k.invariant.end)
    (ap (λ (s : SectionParts). s.total) c.section-section.ensures.is)

pub loop-k-preserved : goal.loop-k-preserved
loop-k-preserved c =
    let base = base-is c.args.pef.now c.args.start c.loop-k.k c.loop-k.end _ _ c.base_behind-base.ensures.is c.section-section.ensures.is c.loop-k.invariant.end in
    let total = ap (λ (s : SectionParts). s.total) c.section-section.ensures.is in
    record {
      end = rw add-one (next-end c.args.pef.now c.args.start c.loop-k.k _ _ base total);
      bases = rw add-one (c.in_ok-push.ensures.items ∙ (ap (λ (xs : List ℕ). xs ++ c.base_behind-base.result ∷ []) c.loop-k.invariant.bases
          ∙ ap (λ (b : ℕ). bases c.args.pef.now c.args.start c.loop-k.k ++ b ∷ []) base));
      totals = rw add-one (c.in_ok-push-2.ensures.items ∙ (ap (λ (xs : List ℕ). xs ++ c.section-section.result.total ∷ []) c.loop-k.invariant.totals
          ∙ ap (λ (t : ℕ). totals c.args.pef.now c.loop-k.k ++ t ∷ []) total));
    }

pub returns-in_err-push-clause-start : goal.returns-in_err-push-clause-start
returns-in_err-push-clause-start c =
    let p = err_from_is_err_and c.from_residual.result c.from_residual.ensures.1 in
    rw p.1 tt

pub returns-in_err-push-clause-bases : goal.returns-in_err-push-clause-bases
returns-in_err-push-clause-bases c =
    let p = err_from_is_err_and c.from_residual.result c.from_residual.ensures.1 in
    rw p.1 tt

pub returns-in_err-push-clause-totals : goal.returns-in_err-push-clause-totals
returns-in_err-push-clause-totals c =
    let p = err_from_is_err_and c.from_residual.result c.from_residual.ensures.1 in
    rw p.1 tt

pub returns-in_err-push-2-clause-start : goal.returns-in_err-push-2-clause-start
returns-in_err-push-2-clause-start c =
    let p = err_from_is_err_and c.from_residual-in_err-push-2.result c.from_residual-in_err-push-2.ensures.1 in
    rw p.1 tt

pub returns-in_err-push-2-clause-bases : goal.returns-in_err-push-2-clause-bases
returns-in_err-push-2-clause-bases c =
    let p = err_from_is_err_and c.from_residual-in_err-push-2.result c.from_residual-in_err-push-2.ensures.1 in
    rw p.1 tt

pub returns-in_err-push-2-clause-totals : goal.returns-in_err-push-2-clause-totals
returns-in_err-push-2-clause-totals c =
    let p = err_from_is_err_and c.from_residual-in_err-push-2.result c.from_residual-in_err-push-2.ensures.1 in
    rw p.1 tt

pub returns-clause-start : goal.returns-clause-start
returns-clause-start c = refl

pub returns-clause-bases : goal.returns-clause-bases
returns-clause-bases c =
    let same : c.loop-k.k ≡ c.args.count = le_antisymm c.loop-k.auto.k-end c.loop-k-test.false in
    subst (λ (n : ℕ). c.loop-k.bases.items ≡ bases c.args.pef.now c.args.start n) same c.loop-k.invariant.bases

pub returns-clause-totals : goal.returns-clause-totals
returns-clause-totals c =
    let same : c.loop-k.k ≡ c.args.count = le_antisymm c.loop-k.auto.k-end c.loop-k-test.false in
    subst (λ (n : ℕ). c.loop-k.totals.items ≡ totals c.args.pef.now n) same c.loop-k.invariant.totals
