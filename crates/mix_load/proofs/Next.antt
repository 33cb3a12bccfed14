-- One section of a container more: where it is, and what memory is then.
use Rattle.std.proofs.Common.{◌≡◌, ap, ◌∙◌, ℕ, suc, ◌+◌, ◌^◌, ◌<◌, ◌≤◌, Fits, List, Option, Some, None, option_map, refl, arith}
use Rattle.std.specs.Int.{w32, w64}
use Rattle.pef_reloc.specs.declared.error.RelocError.{RelocError}
use Rattle.pef_head.specs.Parts.{SectionParts, section_at}
use Rattle.big_memory.specs.Memory.{Memory, with_bytes}
use Rattle.mix_load.specs.declared.error.LoadError.TheVariants.{Reloc}
use Rattle.mix_load.specs.Pieces.{with_pieces}
use Rattle.mix_load.specs.Sections.{base_behind, section_base, sections_end}
use Rattle.mix_load.specs.inner.Sections.{contents, section_pieces}
use Rattle.mix_load.specs.laws.Sections.{total_at}
use Rattle.mix_load.proofs.Ends.{section_within, sections_grow}

pub small_room : (n room : ℕ) → n ≤ room → room ≤ 2 ^ 24 → n < 2 ^ 32
small_room n room fits small = omega arith

pub section-near : (bytes : List ℕ) (start k count end : ℕ) → k < count → sections_end bytes start count < 2 ^ 32 → end ≡ sections_end bytes start k → end ≤ 2 ^ 60
section-near bytes start k count end lt fits is = omega (arith, sections_grow bytes start k count (omega arith))

pub base-is : (bytes : List ℕ) (start k end base : ℕ) (s : SectionParts) → base ≡ base_behind s end → s ≡ section_at bytes k → end ≡ sections_end bytes start k → base ≡ section_base bytes start k
base-is bytes start k end base s is same end_is =
    is ∙ (ap (λ (x : SectionParts). base_behind x end) same ∙ ap (base_behind (section_at bytes k)) end_is)

pub base-small : (bytes : List ℕ) (start k count base : ℕ) → k < count → sections_end bytes start count < 2 ^ 32 → base ≡ section_base bytes start k → Fits w32 base
base-small bytes start k count base lt fits is = omega (arith, section_within bytes start k count lt)

pub end-small : (bytes : List ℕ) (start k count base total : ℕ) → k < count → sections_end bytes start count < 2 ^ 32 → base ≡ section_base bytes start k → total ≡ total_at bytes k → Fits w64 (base + total)
end-small bytes start k count base total lt fits is total_is = omega (arith, section_within bytes start k count lt)

pub section-fits : (bytes : List ℕ) (start k count base total room : ℕ) → k < count → sections_end bytes start count ≤ room → base ≡ section_base bytes start k → total ≡ total_at bytes k → base + total ≤ room
section-fits bytes start k count base total room lt fits is total_is = omega (arith, section_within bytes start k count lt)

pub next-end : (bytes : List ℕ) (start k base total : ℕ) → base ≡ section_base bytes start k → total ≡ total_at bytes k → base + total ≡ sections_end bytes start (suc k)
next-end bytes start k base total is total_is = ap (λ (b : ℕ). b + total) is ∙ ap (λ (t : ℕ). section_base bytes start k + t) total_is

pub next-memory : (bytes : List ℕ) (start k base : ℕ) (s : SectionParts) (new old first : Memory) → base ≡ section_base bytes start k → s ≡ section_at bytes k
    → new ≡ with_bytes base (contents s) old → old ≡ with_pieces (section_pieces bytes start k) first → new ≡ with_pieces (section_pieces bytes start (suc k)) first
next-memory bytes start k base s new old first base_is same new_is old_is =
    let before = with_pieces (section_pieces bytes start k) first in
    new_is ∙ (ap (with_bytes base (contents s)) old_is ∙ (ap (λ (b : ℕ). with_bytes b (contents s) before) base_is
    ∙ ap (λ (x : SectionParts). with_bytes (section_base bytes start k) (contents x) before) same))

pub reloc_none : (o : Option RelocError) → option_map (λ r. Reloc r) o ≡ None → o ≡ None
reloc_none None is = refl
reloc_none (Some r) is = absurd (cc)
