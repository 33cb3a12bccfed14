-- One section more.
use Rattle.std.proofs.Common.{◌≡◌, ◌∙◌, ℕ, ◌+◌, ◌++◌, List, add-one, ap, arith}
use Rattle.pef_head.specs.Parts.{SectionParts, section_at}
use Rattle.mix_load.specs.Sections.{base_behind, section_base, sections_end}
use Rattle.look_text.specs.Containers.{section_text, sections_text}
use Rattle.look_text.proofs.Lines.{at_end, next}
use Rattle.look_text.proofs.sections.add_sections.Goals as goal

line_is : (bytes : List ℕ) (start k end : ℕ) (s : SectionParts) → s ≡ section_at bytes k → end ≡ sections_end bytes start k
    → section_text k s (base_behind s end) ≡ section_text k (section_at bytes k) (section_base bytes start k)
line_is bytes start k end s is there =
    ap (λ (x : SectionParts). section_text k x (base_behind x end)) is
    ∙ ap (λ (e : ℕ). section_text k (section_at bytes k) (base_behind (section_at bytes k) e)) there

end_is : (bytes : List ℕ) (start k end after : ℕ) (s : SectionParts) → s ≡ section_at bytes k → end ≡ sections_end bytes start k
    → after ≡ base_behind s end + s.total → after ≡ section_base bytes start k + (section_at bytes k).total
end_is bytes start k end after s is there made =
    made ∙ ap (λ (x : SectionParts). base_behind x end + x.total) is
    ∙ ap (λ (e : ℕ). base_behind (section_at bytes k) e + (section_at bytes k).total) there

pub loop-k-preserved : goal.loop-k-preserved
loop-k-preserved c = record {
  text = rw add-one
      (next _ _ _ _ _ _ c.in_ok-end.ensures.text c.loop-k.invariant.text
      (line_is c.args.pef.now c.args.start c.loop-k.k c.loop-k.end _ c.section.ensures.is c.loop-k.invariant.end));
  end = rw add-one (end_is c.args.pef.now c.args.start c.loop-k.k c.loop-k.end c.in_ok-end.end _ c.section.ensures.is c.loop-k.invariant.end c.in_ok-end.ensures.end);
  few = omega (arith, c.in_ok-end.ensures.near, c.loop-k.invariant.few);
}

pub returns : goal.returns
returns c =
    at_end (λ (n : ℕ). c.loop-k.text.items ≡ c.args.text.now.items ++ sections_text c.args.pef.now c.args.start n) c.loop-k.k c.args.count c.loop-k.invariant.text
    c.loop-k.auto.k-end c.loop-k-test.false
