use Rattle.std.proofs.Common.{◌≡◌, ℕ, ◌<◌, ◌≤◌, length, option_map, sym, subst, arith}
use Rattle.std.specs.Prelude.{OnOk}
use Rattle.mix_load.specs.declared.error.LoadError.TheVariants.{Reloc}
use Rattle.mix_load.specs.inner.Outcome.{Finds}
use Rattle.mix_load.specs.Pieces.{with_pieces}
use Rattle.mix_load.specs.Sections.{first_refusal, sections_end}
use Rattle.mix_load.specs.SectionsClauses.{patterns_refusal}
use Rattle.mix_load.specs.inner.Sections.{contents_at, section_pieces}
use Rattle.mix_load.specs.laws.Sections.{total_at}
use Rattle.mix_load.proofs.sections.put_sections.Goals as goal

pub put_first-requires : goal.put_first-requires
put_first-requires c = record {
  below = omega (arith, c.sections.ensures.is);
  fits = subst (λ (n : ℕ). sections_end c.args.pef.now c.args.start n ≤ length c.args.ram.now.bytes) (sym c.sections.ensures.is) c.requires.fits;
  small = c.requires.small;
}

pub returns : goal.returns
returns c =
    let is = c.sections.ensures.is in
    record {
      refusal = subst (λ (n : ℕ). Finds c.put_first.result (option_map (λ e. Reloc e) (first_refusal (patterns_refusal c.args.pef.now) n))) is c.put_first.ensures.refusal;
      sizes = subst (λ (n : ℕ). OnOk c.put_first.result ((k : ℕ) → k < n → length (contents_at c.args.pef.now k) ≡ total_at c.args.pef.now k)) is c.put_first.ensures.sizes;
      memory = subst (λ (n : ℕ). OnOk c.put_first.result (c.put_first.new.ram ≡ with_pieces (section_pieces c.args.pef.now c.args.start n) c.args.ram.now)) is c.put_first.ensures.memory;
      len = c.put_first.ensures.len;
    }
