use Rattle.std.proofs.Common.{add-one, ap, ◌∙◌, sym, option_map, arith}
use Rattle.big_memory.specs.Lists.{part}
use Rattle.big_memory.specs.Memory.{Memory, with_bytes}
use Rattle.pef_head.specs.Container.{instantiated_count}
use Rattle.mix_load.specs.Sections.{section_base}
use Rattle.mix_load.specs.inner.Sections.{relocated_bytes, relocs_refusal}
use Rattle.mix_load.specs.laws.Sections.{total_at}
use Rattle.mix_load.specs.declared.error.LoadError.TheVariants.{Reloc}
use Rattle.mix_load.proofs.Containers.{next-stands}
use Rattle.mix_load.proofs.Searches.{refused_at}
use Rattle.mix_load.proofs.relocations.relocate_first.Goals as goal

pub relocate_section-requires-clause-stands : goal.relocate_section-requires-clause-stands
relocate_section-requires-clause-stands c =
    let pef = c.args.pef.now in
    let start = c.args.placement.now.start in
    ap (λ (m : Memory). part (section_base pef start c.loop-k.k) (total_at pef c.loop-k.k) m.bytes) c.loop-k.invariant.memory
    ∙ (next-stands c.plan_laws.ensures.size pef start (instantiated_count pef) c.loop-k.k c.args.ram.now.bytes c.requires.fits c.requires.sizes (omega (arith, c.loop-k-test.true, c.requires.below))
    ∙ c.requires.stand c.loop-k.k c.loop-k-test.true)

pub loop-k-preserved : goal.loop-k-preserved
loop-k-preserved c = record {
  passed = rw add-one (rw c.loop-k.invariant.passed (sym c.in-Ok.ensures.refusal));
  memory = rw add-one (c.in-Ok.ensures.memory
      ∙ ap (with_bytes (section_base c.args.pef.now c.args.placement.now.start c.loop-k.k) (relocated_bytes c.args.pef.now c.args.placement.now.start c.loop-k.k)) c.loop-k.invariant.memory);
  len = c.in-Ok.ensures.len ∙ c.loop-k.invariant.len;
}

pub returns-in-Err-clause-refusal : goal.returns-in-Err-clause-refusal
returns-in-Err-clause-refusal c =
    sym (ap (option_map (λ r. Reloc r)) (refused_at (relocs_refusal c.args.pef.now c.args.placement.now.start) c.args.count c.loop-k.k c.in-Err.e c.loop-k-test.true c.loop-k.invariant.passed (sym c.in-Err.ensures.refusal)))
