use Rattle.std.proofs.Common.{◌≡◌, ◌+◌, ◌<◌, Some, ℕ, List, get_or, sym, ap, ◌∙◌, arith}
use Rattle.pef_head.specs.Container.{instantiated_count}
use Rattle.mix_load.specs.Sections.{section_base}
use Rattle.mix_load.specs.laws.Sections.{total_at}
use Rattle.mix_load.proofs.Ends.{section_within}
use Rattle.mix_load.proofs.Relocated.{base-at, bases-length, total-at, totals-length}
use Rattle.mix_load.proofs.Vectors.{vector-cut, vector-there}
use Rattle.mix_load.proofs.vector.main_vector.Goals as goal

pub bounds-totals-k : goal.bounds-totals-k
bounds-totals-k c =
    let lt : c.in_ok-section.section < instantiated_count c.args.pef.now = omega (arith, c.sections.ensures.is, c.if-sections-section.false) in
    omega (arith, lt, totals-length c.args.pef.now c.args.placement.now c.as_slice-totals.result.now c.as_slice-totals.ensures.value c.requires.placed)

pub bounds-bases-k : goal.bounds-bases-k
bounds-bases-k c =
    let lt : c.in_ok-section.section < instantiated_count c.args.pef.now = omega (arith, c.sections.ensures.is, c.if-sections-section.false) in
    omega (arith, lt, bases-length c.args.pef.now c.args.placement.now c.as_slice-bases.result.now c.as_slice-bases.ensures.value c.requires.placed)

pub overflow_add-result : goal.overflow_add-result
overflow_add-result c =
    let pef = c.args.pef.now in
    let p = c.args.placement.now in
    let k = c.in_ok-section.section in
    let lt : k < instantiated_count pef = omega (arith, c.sections.ensures.is, c.if-sections-section.false) in
    let base_is : get_or c.as_slice-bases.result.now k 0 ≡ section_base pef p.start k = ap (λ (xs : List ℕ). get_or xs k 0) c.as_slice-bases.ensures.value ∙ base-at pef p k c.requires.placed lt in
    let total_is : get_or c.as_slice-totals.result.now k 0 ≡ total_at pef k = ap (λ (xs : List ℕ). get_or xs k 0) c.as_slice-totals.ensures.value ∙ total-at pef p k c.requires.placed lt in
    omega (arith, base_is, total_is, section_within pef p.start k (instantiated_count pef) lt, c.if-total-offset.false, c.requires.small)

pub returns-then-total-offset-clause-is : goal.returns-then-total-offset-clause-is
returns-then-total-offset-clause-is c =
    let pef = c.args.pef.now in
    let p = c.args.placement.now in
    let k = c.in_ok-section.section in
    let lt : k < instantiated_count pef = omega (arith, c.sections.ensures.is, c.if-sections-section.false) in
    let total_is : get_or c.as_slice-totals.result.now k 0 ≡ total_at pef k = ap (λ (xs : List ℕ). get_or xs k 0) c.as_slice-totals.ensures.value ∙ total-at pef p k c.requires.placed lt in
    sym (vector-cut pef p.start k c.in_ok-section.offset (sym c.main.ensures ∙ c.in_ok-section.was) (omega (arith, total_is, c.if-total-offset.true)))

pub returns-clause-is : goal.returns-clause-is
returns-clause-is c =
    let pef = c.args.pef.now in
    let p = c.args.placement.now in
    let k = c.in_ok-section.section in
    let lt : k < instantiated_count pef = omega (arith, c.sections.ensures.is, c.if-sections-section.false) in
    let base_is : get_or c.as_slice-bases.result.now k 0 ≡ section_base pef p.start k = ap (λ (xs : List ℕ). get_or xs k 0) c.as_slice-bases.ensures.value ∙ base-at pef p k c.requires.placed lt in
    let total_is : get_or c.as_slice-totals.result.now k 0 ≡ total_at pef k = ap (λ (xs : List ℕ). get_or xs k 0) c.as_slice-totals.ensures.value ∙ total-at pef p k c.requires.placed lt in
    ap (λ (b : ℕ). Some (b + c.in_ok-section.offset)) base_is
    ∙ sym (vector-there pef p.start k c.in_ok-section.offset (sym c.main.ensures ∙ c.in_ok-section.was) lt (omega (arith, total_is, c.if-total-offset.false)))

pub returns-clause-within : goal.returns-clause-within
returns-clause-within c =
    let pef = c.args.pef.now in
    let p = c.args.placement.now in
    let k = c.in_ok-section.section in
    let lt : k < instantiated_count pef = omega (arith, c.sections.ensures.is, c.if-sections-section.false) in
    let base_is : get_or c.as_slice-bases.result.now k 0 ≡ section_base pef p.start k = ap (λ (xs : List ℕ). get_or xs k 0) c.as_slice-bases.ensures.value ∙ base-at pef p k c.requires.placed lt in
    let total_is : get_or c.as_slice-totals.result.now k 0 ≡ total_at pef k = ap (λ (xs : List ℕ). get_or xs k 0) c.as_slice-totals.ensures.value ∙ total-at pef p k c.requires.placed lt in
    omega (arith, base_is, total_is, section_within pef p.start k (instantiated_count pef) lt, c.if-total-offset.false)
