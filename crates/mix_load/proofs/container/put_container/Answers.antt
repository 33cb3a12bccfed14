use Rattle.std.proofs.Common.{◌+◌, ◌≤◌, Option, None, List, ℕ, IfSome, length, slice_index_or, take, subst, sym, ap, ◌∙◌, arith}
use Rattle.std.proofs.lemmas.Result.{err_from_is_err_and}
use Rattle.big_memory.specs.Memory.{Memory}
use Rattle.pef_head.specs.Container.{instantiated_count}
use Rattle.mix_bits.specs.SearchOperator.{◌or◌}
use Rattle.mix_load.specs.declared.error.LoadError.{LoadError}
use Rattle.mix_load.specs.inner.Container.{imports_refusal, relocations_refusal}
use Rattle.mix_load.specs.Sections.{main_vector, sections_end}
use Rattle.mix_load.proofs.Containers.{over-in, relocated-front, stand-in}
use Rattle.mix_load.proofs.container.put_container.Goals as goal

pub returns-in_err-put_sections-clause-refusal : goal.returns-in_err-put_sections-clause-refusal
returns-in_err-put_sections-clause-refusal c =
    let p = err_from_is_err_and c.from_residual-in_err-put_sections.result c.from_residual-in_err-put_sections.ensures.1 in
    rw (p.1, p.2) (λ real. ap (λ (r : Option LoadError). r or imports_refusal c.args.pef.now or relocations_refusal c.args.pef.now c.args.start) (c.in_err-put_sections.ensures.refusal real))

pub returns-in_err-imports-clause-refusal : goal.returns-in_err-imports-clause-refusal
returns-in_err-imports-clause-refusal c =
    let p = err_from_is_err_and c.from_residual-in_err-imports.result c.from_residual-in_err-imports.ensures.1 in
    rw (p.1, p.2) (λ real. ap (λ (r : Option LoadError). r or imports_refusal c.args.pef.now or relocations_refusal c.args.pef.now c.args.start) c.in_ok-put_sections.ensures.refusal
    ∙ ap (λ (r : Option LoadError). r or relocations_refusal c.args.pef.now c.args.start) (c.in_err-imports.ensures.refusal real))

pub relocate_sections-requires-clause-placed : goal.relocate_sections-requires-clause-placed
relocate_sections-requires-clause-placed c = record {
  bases = c.in_ok-placement.ensures.bases;
  from_imports = c.deref.ensures.value ∙ c.in_ok-imports.ensures.is;
  few = omega (arith, ap length c.deref.ensures.value, c.in_ok-imports.ensures.few);
}

pub relocate_sections-requires-clause-fits : goal.relocate_sections-requires-clause-fits
relocate_sections-requires-clause-fits c =
    omega (arith, ap (λ (s : ℕ). sections_end c.args.pef.now s (instantiated_count c.args.pef.now)) c.in_ok-placement.ensures.start, c.requires.fits, c.in_ok-put_sections.ensures.len)

pub relocate_sections-requires-clause-sizes : goal.relocate_sections-requires-clause-sizes
relocate_sections-requires-clause-sizes c = c.in_ok-put_sections.ensures.sizes

pub relocate_sections-requires-clause-stand : goal.relocate_sections-requires-clause-stand
relocate_sections-requires-clause-stand c =
    stand-in c.args.pef.now c.args.start c.in_ok-placement.placement.start (instantiated_count c.args.pef.now) c.put_sections.new.ram c.args.ram.now
    c.in_ok-placement.ensures.start c.in_ok-put_sections.ensures.memory c.requires.fits c.in_ok-put_sections.ensures.sizes

pub relocate_sections-requires-clause-headers : goal.relocate_sections-requires-clause-headers
relocate_sections-requires-clause-headers c = λ k lt. ap (λ (xs : List (Option ℕ)). slice_index_or xs k None) c.deref-2.ensures.value ∙ c.in_ok-headers.ensures.is k lt

pub relocate_sections-requires-clause-noted : goal.relocate_sections-requires-clause-noted
relocate_sections-requires-clause-noted c = ap length c.deref-2.ensures.value ∙ c.in_ok-headers.ensures.len

pub returns-in_err-relocate_sections-clause-refusal : goal.returns-in_err-relocate_sections-clause-refusal
returns-in_err-relocate_sections-clause-refusal c =
    let p = err_from_is_err_and c.from_residual-in_err-relocate_sections.result c.from_residual-in_err-relocate_sections.ensures.1 in
    rw (p.1, p.2) (λ real. ap (λ (r : Option LoadError). r or imports_refusal c.args.pef.now or relocations_refusal c.args.pef.now c.args.start) c.in_ok-put_sections.ensures.refusal
    ∙ (ap (λ (r : Option LoadError). r or relocations_refusal c.args.pef.now c.args.start) c.in_ok-imports.ensures.refusal
    ∙ (ap (relocations_refusal c.args.pef.now) (sym c.in_ok-placement.ensures.start) ∙ sym c.in_err-relocate_sections.ensures.refusal)))

pub main_vector-requires-clause-placed : goal.main_vector-requires-clause-placed
main_vector-requires-clause-placed c = c.in_ok-placement.ensures.bases

pub main_vector-requires-clause-small : goal.main_vector-requires-clause-small
main_vector-requires-clause-small c =
    omega (arith, ap (λ (s : ℕ). sections_end c.args.pef.now s (instantiated_count c.args.pef.now)) c.in_ok-placement.ensures.start, c.requires.fits, c.requires.small)

pub returns-clause-refusal : goal.returns-clause-refusal
returns-clause-refusal c =
    ap (λ (r : Option LoadError). r or imports_refusal c.args.pef.now or relocations_refusal c.args.pef.now c.args.start) c.in_ok-put_sections.ensures.refusal
    ∙ (ap (λ (r : Option LoadError). r or relocations_refusal c.args.pef.now c.args.start) c.in_ok-imports.ensures.refusal
    ∙ (ap (relocations_refusal c.args.pef.now) (sym c.in_ok-placement.ensures.start) ∙ sym c.in_ok-relocate_sections.ensures.refusal))

pub returns-clause-vector : goal.returns-clause-vector
returns-clause-vector c = c.main_vector.ensures.is ∙ ap (main_vector c.args.pef.now) c.in_ok-placement.ensures.start

pub returns-clause-within : goal.returns-clause-within
returns-clause-within c =
    subst (λ (s : ℕ). IfSome c.main_vector.result (λ (v : ℕ). v + 8 ≤ sections_end c.args.pef.now s (instantiated_count c.args.pef.now))) c.in_ok-placement.ensures.start c.main_vector.ensures.within

pub returns-clause-memory : goal.returns-clause-memory
returns-clause-memory c =
    over-in c.plan_laws.ensures.size c.args.pef.now c.args.start c.in_ok-placement.placement.start (instantiated_count c.args.pef.now) c.relocate_sections.new.ram c.put_sections.new.ram c.args.ram.now
    c.in_ok-placement.ensures.start c.in_ok-relocate_sections.ensures.memory c.in_ok-put_sections.ensures.memory c.requires.fits c.in_ok-put_sections.ensures.sizes

pub returns-clause-front : goal.returns-clause-front
returns-clause-front c = λ n le. ap (λ (m : Memory). take n m.bytes) (returns-clause-memory c)
    ∙ relocated-front c.plan_laws.ensures.size c.args.pef.now c.args.start (instantiated_count c.args.pef.now) n c.args.ram.now.bytes c.requires.fits c.in_ok-put_sections.ensures.sizes le

pub returns-clause-len : goal.returns-clause-len
returns-clause-len c = c.in_ok-relocate_sections.ensures.len ∙ c.in_ok-put_sections.ensures.len
