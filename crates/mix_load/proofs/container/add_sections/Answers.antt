use Rattle.std.proofs.Common.{◌≡◌, ◌+◌, ◌≤◌, ◌&&◌, is_none, Ok, unwrap_or, Option, ℕ, length, subst, sym, ap, ◌∙◌, arith}
use Rattle.std.proofs.lemmas.Result.{err_from_is_err_and}
use Rattle.big_memory.specs.Memory.{Memory, floor_of}
use Rattle.pef_head.specs.Container.{instantiated_count}
use Rattle.mix_bits.specs.Search.{refused}
use Rattle.mix_load.specs.declared.error.LoadError.{LoadError}
use Rattle.mix_load.specs.declared.error.LoadError.TheVariants.{NoMain}
use Rattle.mix_load.specs.ContainerImage.{container_image, is_ppc}
use Rattle.mix_load.specs.Outcome.{unless}
use Rattle.mix_bits.specs.Multiples.{rounded_up}
use Rattle.mix_load.specs.Sections.{sections_end}
use Rattle.mix_load.proofs.Ends.{start_within}
use Rattle.mix_load.proofs.Placed.{container-image-is, sections-fail, sections-large, sections-placed}
use Rattle.mix_load.proofs.Wholes.{added_whole, not_too_large, vector-room}
use Rattle.mix_load.proofs.container.add_sections.Goals as goal

pub returns-in_err-test_end-clause-is : goal.returns-in_err-test_end-clause-is
returns-in_err-test_end-clause-is c =
    let end_is : c.sections_end-end.result ≡ sections_end c.args.pef.now c.args.image.end (instantiated_count c.args.pef.now) =
    c.sections_end-end.ensures.is ∙ ap (sections_end c.args.pef.now c.args.image.end) c.sections.ensures.is in
    let p = err_from_is_err_and c.from_residual.result c.from_residual.ensures.1 in
    rw (p.1, p.2) (λ real. sections-large c.args.main c.args.pef.now c.args.image c.floor.result c.sections_end-end.result _ c.floor.ensures end_is c.in_err-test_end.ensures)

pub put_container-requires-clause-fits : goal.put_container-requires-clause-fits
put_container-requires-clause-fits c =
    let end_is : c.sections_end-end.result ≡ sections_end c.args.pef.now c.args.image.end (instantiated_count c.args.pef.now) =
    c.sections_end-end.ensures.is ∙ ap (sections_end c.args.pef.now c.args.image.end) c.sections.ensures.is in
    omega (arith, end_is, not_too_large c.floor.result c.sections_end-end.result (sym c.in_ok-test_end.ensures), c.floor.ensures)

pub returns-in_err-vector-clause-is : goal.returns-in_err-vector-clause-is
returns-in_err-vector-clause-is c =
    let end_is : c.sections_end-end.result ≡ sections_end c.args.pef.now c.args.image.end (instantiated_count c.args.pef.now) =
    c.sections_end-end.ensures.is ∙ ap (sections_end c.args.pef.now c.args.image.end) c.sections.ensures.is in
    let p = err_from_is_err_and c.from_residual-in_err-vector.result c.from_residual-in_err-vector.ensures.1 in
    rw (p.1, p.2) (λ real. sections-fail c.args.main c.args.pef.now c.args.image c.floor.result c.sections_end-end.result _ c.floor.ensures end_is c.in_ok-test_end.ensures (c.in_err-vector.ensures.refusal real))

pub returns-in_err-test_main-clause-is : goal.returns-in_err-test_main-clause-is
returns-in_err-test_main-clause-is c =
    let end_is : c.sections_end-end.result ≡ sections_end c.args.pef.now c.args.image.end (instantiated_count c.args.pef.now) =
    c.sections_end-end.ensures.is ∙ ap (sections_end c.args.pef.now c.args.image.end) c.sections.ensures.is in
    let p = err_from_is_err_and c.from_residual-in_err-test_main.result c.from_residual-in_err-test_main.ensures.1 in
    rw (p.1, p.2) (λ real. sections-placed c.args.main c.args.pef.now c.args.image c.floor.result c.sections_end-end.result c.floor.ensures end_is c.in_ok-test_end.ensures c.in_ok-vector.ensures.refusal
    ∙ ap (λ (r : Option LoadError). unless r (container_image c.args.pef.now c.args.image))
    (ap (λ (v : Option ℕ). refused (is_ppc c.args.main && is_none v) NoMain) (sym c.in_ok-vector.ensures.vector) ∙ sym c.in_err-test_main.ensures))

pub returns-clause-is : goal.returns-clause-is
returns-clause-is c =
    let end_is : c.sections_end-end.result ≡ sections_end c.args.pef.now c.args.image.end (instantiated_count c.args.pef.now) =
    c.sections_end-end.ensures.is ∙ ap (sections_end c.args.pef.now c.args.image.end) c.sections.ensures.is in
    sections-placed c.args.main c.args.pef.now c.args.image c.floor.result c.sections_end-end.result c.floor.ensures end_is c.in_ok-test_end.ensures c.in_ok-vector.ensures.refusal
    ∙ (ap (λ (r : Option LoadError). unless r (container_image c.args.pef.now c.args.image))
    (ap (λ (v : Option ℕ). refused (is_ppc c.args.main && is_none v) NoMain) (sym c.in_ok-vector.ensures.vector) ∙ sym c.in_ok-test_main.ensures)
    ∙ ap Ok (sym (container-image-is c.args.pef.now c.args.image c.put_container.new.ram c.sections_end-end.result c.unwrap_or.result c.in_ok-vector.ensures.memory end_is
    (c.unwrap_or.ensures ∙ ap (λ (v : Option ℕ). unwrap_or v 0) c.in_ok-vector.ensures.vector))))

pub returns-clause-whole : goal.returns-clause-whole
returns-clause-whole c =
    let end_is : c.sections_end-end.result ≡ sections_end c.args.pef.now c.args.image.end (instantiated_count c.args.pef.now) =
    c.sections_end-end.ensures.is ∙ ap (sections_end c.args.pef.now c.args.image.end) c.sections.ensures.is in
    let low : rounded_up 16 c.sections_end-end.result ≤ floor_of c.args.image.ram =
    subst (λ (f : ℕ). rounded_up 16 c.sections_end-end.result ≤ f) c.floor.ensures (not_too_large c.floor.result c.sections_end-end.result (sym c.in_ok-test_end.ensures)) in
    added_whole c.args.image _ (ap (λ (m : Memory). m.marks) c.in_ok-vector.ensures.memory) c.in_ok-vector.ensures.front c.in_ok-vector.ensures.len
    (omega (arith, end_is, start_within c.args.pef.now c.args.image.end (instantiated_count c.args.pef.now))) low
    (subst (λ (n : ℕ). n + 8 ≤ length c.args.image.ram.bytes) (sym c.unwrap_or.ensures)
    (vector-room c.in_ok-vector.vector (sections_end c.args.pef.now c.args.image.end (instantiated_count c.args.pef.now)) (length c.args.image.ram.bytes)
    c.in_ok-vector.ensures.within (omega (arith, end_is, low)) (omega (arith, low, end_is, start_within c.args.pef.now c.args.image.end (instantiated_count c.args.pef.now), c.requires.behind))))
    c.requires
