use Rattle.std.proofs.Common.{◌≡◌, ℕ, ◌<◌, add-one, length, None, option_map, sym, ap, subst, ◌∙◌, arith}
use Rattle.std.proofs.lemmas.Result.{err_from_is_err_and}
use borrow.Author.Count.{below_more}
use Rattle.mix_load.proofs.Searches.{reloc-first}
use Rattle.mix_load.specs.declared.error.LoadError.TheVariants.{Reloc}
use Rattle.pef_head.specs.Parts.{SectionParts}
use Rattle.mix_load.specs.Pieces.{with_pieces}
use Rattle.mix_load.specs.Sections.{first_refusal, pattern_refusal}
use Rattle.mix_load.specs.inner.Sections.{contents, section_pieces, contents_at}
use Rattle.mix_load.specs.SectionsClauses.{patterns_refusal}
use Rattle.mix_load.specs.laws.Sections.{total_at}
use Rattle.mix_load.proofs.Next.{base-is, base-small, end-small, next-end, next-memory, reloc_none, section-fits, section-near, small_room}
use Rattle.mix_load.proofs.sections.put_first.Goals as goal

pub base_behind-base-requires-clause-near : goal.base_behind-base-requires-clause-near
base_behind-base-requires-clause-near c =
    section-near c.args.pef.now c.args.start c.loop-k.k c.args.count c.loop-k.end c.loop-k-test.true (small_room _ _ c.requires.fits c.requires.small) c.loop-k.invariant.end

pub base_behind-base-requires-clause-aligned : goal.base_behind-base-requires-clause-aligned
base_behind-base-requires-clause-aligned c = c.section-section.ensures.loadable.aligned

pub overflow_cast-base : goal.overflow_cast-base
overflow_cast-base c =
    base-small c.args.pef.now c.args.start c.loop-k.k c.args.count c.base_behind-base.result c.loop-k-test.true (small_room _ _ c.requires.fits c.requires.small)
    (base-is c.args.pef.now c.args.start c.loop-k.k c.loop-k.end _ _ c.base_behind-base.ensures.is c.section-section.ensures.is c.loop-k.invariant.end)

pub put_section-requires-clause-loadable : goal.put_section-requires-clause-loadable
put_section-requires-clause-loadable c = c.section-section.ensures.loadable

pub put_section-requires-clause-fits : goal.put_section-requires-clause-fits
put_section-requires-clause-fits c =
    section-fits c.args.pef.now c.args.start c.loop-k.k c.args.count c.base_behind-base.result c.section-section.result.total (length c.loop-k.ram.bytes) c.loop-k-test.true
    (rw c.loop-k.invariant.len c.requires.fits)
    (base-is c.args.pef.now c.args.start c.loop-k.k c.loop-k.end _ _ c.base_behind-base.ensures.is c.section-section.ensures.is c.loop-k.invariant.end)
    (ap (λ (s : SectionParts). s.total) c.section-section.ensures.is)

pub overflow_add-end : goal.overflow_add-end
overflow_add-end c =
    end-small c.args.pef.now c.args.start c.loop-k.k c.args.count c.base_behind-base.result c.section-section.result.total c.loop-k-test.true (small_room _ _ c.requires.fits c.requires.small)
    (base-is c.args.pef.now c.args.start c.loop-k.k c.loop-k.end _ _ c.base_behind-base.ensures.is c.section-section.ensures.is c.loop-k.invariant.end)
    (ap (λ (s : SectionParts). s.total) c.section-section.ensures.is)

pub returns-in_err-put_section-clause-refusal : goal.returns-in_err-put_section-clause-refusal
returns-in_err-put_section-clause-refusal c =
    let p = err_from_is_err_and c.from_residual.result c.from_residual.ensures.1 in
    rw (p.1, p.2) (λ real. reloc-first (patterns_refusal c.args.pef.now) c.args.count c.loop-k.k _ c.loop-k-test.true c.loop-k.invariant.passed
    (ap (λ (s : SectionParts). option_map (λ e. Reloc e) (pattern_refusal s)) (sym c.section-section.ensures.is) ∙ c.in_err-put_section.ensures.refusal real))

pub returns-in_err-put_section-clause-sizes : goal.returns-in_err-put_section-clause-sizes
returns-in_err-put_section-clause-sizes c =
    let p = err_from_is_err_and c.from_residual.result c.from_residual.ensures.1 in
    rw p.1 tt

pub returns-in_err-put_section-clause-memory : goal.returns-in_err-put_section-clause-memory
returns-in_err-put_section-clause-memory c =
    let p = err_from_is_err_and c.from_residual.result c.from_residual.ensures.1 in
    rw p.1 tt

pub returns-in_err-put_section-clause-len : goal.returns-in_err-put_section-clause-len
returns-in_err-put_section-clause-len c = c.put_section.ensures.len ∙ c.loop-k.invariant.len

pub loop-k-preserved : goal.loop-k-preserved
loop-k-preserved c =
    let base = base-is c.args.pef.now c.args.start c.loop-k.k c.loop-k.end _ _ c.base_behind-base.ensures.is c.section-section.ensures.is c.loop-k.invariant.end in
    let total = ap (λ (s : SectionParts). s.total) c.section-section.ensures.is in
    let same = c.section-section.ensures.is in
    let none : patterns_refusal c.args.pef.now c.loop-k.k ≡ None = ap (λ (s : SectionParts). pattern_refusal s) (sym same) ∙ reloc_none _ c.in_ok-put_section.ensures.refusal in
    record {
      end = rw add-one (next-end c.args.pef.now c.args.start c.loop-k.k _ _ base total);
      passed = rw add-one (rw c.loop-k.invariant.passed none);
      sizes = below_more (λ (j : ℕ). length (contents_at c.args.pef.now j) ≡ total_at c.args.pef.now j) c.loop-k.k c.loop-k.invariant.sizes
          (subst (λ (s : SectionParts). length (contents s) ≡ s.total) same c.in_ok-put_section.ensures.size);
      memory = rw add-one (next-memory c.args.pef.now c.args.start c.loop-k.k _ _ _ _ _ base same c.in_ok-put_section.ensures.memory c.loop-k.invariant.memory);
      len = c.in_ok-put_section.ensures.len ∙ c.loop-k.invariant.len;
    }

pub returns-clause-refusal : goal.returns-clause-refusal
returns-clause-refusal c =
    let same : c.loop-k.k ≡ c.args.count = omega (arith, c.loop-k-test.false, c.loop-k.auto) in
    ap (option_map (λ e. Reloc e)) (subst (λ (n : ℕ). first_refusal (patterns_refusal c.args.pef.now) n ≡ None) same c.loop-k.invariant.passed)

pub returns-clause-sizes : goal.returns-clause-sizes
returns-clause-sizes c =
    let same : c.loop-k.k ≡ c.args.count = omega (arith, c.loop-k-test.false, c.loop-k.auto) in
    subst (λ (n : ℕ). (j : ℕ) → j < n → length (contents_at c.args.pef.now j) ≡ total_at c.args.pef.now j) same c.loop-k.invariant.sizes

pub returns-clause-memory : goal.returns-clause-memory
returns-clause-memory c =
    let same : c.loop-k.k ≡ c.args.count = omega (arith, c.loop-k-test.false, c.loop-k.auto) in
    subst (λ (n : ℕ). c.loop-k.ram ≡ with_pieces (section_pieces c.args.pef.now c.args.start n) c.args.ram.now) same c.loop-k.invariant.memory

pub returns-clause-len : goal.returns-clause-len
returns-clause-len c = c.loop-k.invariant.len
