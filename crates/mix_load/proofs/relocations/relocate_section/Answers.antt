use Rattle.std.proofs.Common.{ap, ◌∙◌, sym, ℕ, List, get_or, arith}
use Rattle.big_memory.specs.Memory.{with_bytes}
use Rattle.pef_head.specs.Container.{instantiated_count}
use Rattle.pef_reloc.specs.Program.{Relocated}
use Rattle.pef_reloc.specs.ProgramClauses.{relocated_in}
use Rattle.mix_load.specs.Sections.{section_base}
use Rattle.mix_load.specs.laws.Sections.{total_at}
use Rattle.mix_load.proofs.Ends.{section_within}
use Rattle.mix_load.proofs.Relocated.{base-at, bases-length, inside-at, relocated-in-is, total-at, totals-length}
use Rattle.mix_load.proofs.relocations.relocate_section.Goals as goal

pub relocate-requires-clause-paired : goal.relocate-requires-clause-paired
relocate-requires-clause-paired c =
    bases-length c.args.pef.now c.args.placement.now c.deref.result.now c.deref.ensures.value c.requires.placed.bases
    ∙ sym (totals-length c.args.pef.now c.args.placement.now c.deref-2.result.now c.deref-2.ensures.value c.requires.placed.bases)

pub relocate-requires-clause-below : goal.relocate-requires-clause-below
relocate-requires-clause-below c =
    omega (arith, bases-length c.args.pef.now c.args.placement.now c.deref.result.now c.deref.ensures.value c.requires.placed.bases, c.requires.below)

pub relocate-requires-clause-inside : goal.relocate-requires-clause-inside
relocate-requires-clause-inside c =
    let pef = c.args.pef.now in
    let p = c.args.placement.now in
    inside-at c.args.ram.now (get_or c.deref.result.now c.args.k 0) (get_or c.deref-2.result.now c.args.k 0) (section_base pef p.start c.args.k) (total_at pef c.args.k)
    (ap (λ (xs : List ℕ). get_or xs c.args.k 0) c.deref.ensures.value ∙ base-at pef p c.args.k c.requires.placed.bases c.requires.below)
    (ap (λ (xs : List ℕ). get_or xs c.args.k 0) c.deref-2.ensures.value ∙ total-at pef p c.args.k c.requires.placed.bases c.requires.below)
    (omega (arith, section_within pef p.start c.args.k (instantiated_count pef) c.requires.below, c.requires.fits))

pub returns-clause-refusal : goal.returns-clause-refusal
returns-clause-refusal c =
    c.relocate.ensures.refusal
    ∙ ap (λ (r : Relocated). r.refusal) (relocated-in-is c.args.pef.now c.args.placement.now c.args.imports.now c.args.k c.relocs_by-words.result.now c.deref.result.now c.deref-2.result.now c.args.ram.now
    c.deref.ensures.value c.deref-2.ensures.value c.requires.placed c.requires.below c.relocs_by-words.ensures.is c.requires.stands)

pub returns-clause-memory : goal.returns-clause-memory
returns-clause-memory c =
    let pef = c.args.pef.now in
    let p = c.args.placement.now in
    c.relocate.ensures.memory
    ∙ (ap (λ (b : ℕ). with_bytes b (relocated_in c.args.k c.relocs_by-words.result.now c.deref.result.now c.deref-2.result.now c.args.imports.now c.args.ram.now).section c.args.ram.now)
    (ap (λ (xs : List ℕ). get_or xs c.args.k 0) c.deref.ensures.value ∙ base-at pef p c.args.k c.requires.placed.bases c.requires.below)
    ∙ ap (λ (r : Relocated). with_bytes (section_base pef p.start c.args.k) r.section c.args.ram.now)
    (relocated-in-is pef p c.args.imports.now c.args.k c.relocs_by-words.result.now c.deref.result.now c.deref-2.result.now c.args.ram.now
    c.deref.ensures.value c.deref-2.ensures.value c.requires.placed c.requires.below c.relocs_by-words.ensures.is c.requires.stands))
