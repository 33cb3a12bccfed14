-- A section that is relocated in memory.
use Rattle.std.proofs.Common.{◌≡◌, ap, ◌∙◌, ℕ, ◌+◌, ◌<◌, ◌≤◌, true, List, length, get_or, arith}
use Rattle.std.proofs.lemmas.Bool.Decides.{nat_tests}
use Rattle.big_memory.specs.Lists.{part}
use Rattle.big_memory.specs.Memory.{Memory, in_memory}
use Rattle.pef_head.specs.Container.{instantiated_count}
use Rattle.pef_head.specs.Parts.{relocs_of}
use Rattle.pef_reloc.specs.Additions.{Sources}
use Rattle.pef_reloc.specs.laws.Laws.{KeepsSize}
use Rattle.pef_reloc.specs.Program.{relocated}
use Rattle.pef_reloc.specs.ProgramClauses.{relocated_in}
use Rattle.mix_load.specs.declared.sections.Placement.{Placement}
use Rattle.mix_load.specs.inner.Sections.{HasBases, IsPlaced, relocated_bytes, contents_at}
use Rattle.mix_load.specs.Sections.{relocated_section, section_base, sources}
use Rattle.mix_load.specs.SectionsClauses.{bases}
use Rattle.mix_load.specs.laws.Sections.{total_at}
use Rattle.mix_load.proofs.Numbered.{numbered-at, numbered-length}

pub relocated-length : KeepsSize → (bytes : List ℕ) (start k : ℕ) → length (relocated_bytes bytes start k) ≡ length (contents_at bytes k)
relocated-length law bytes start k = law (sources bytes start) (relocs_of bytes k) (contents_at bytes k)

-- where a section stands, and its size
pub base-at : (bytes : List ℕ) (p : Placement) (k : ℕ) → HasBases bytes p → k < instantiated_count bytes → get_or p.bases.items k 0 ≡ section_base bytes p.start k
base-at bytes p k has lt = ap (λ (xs : List ℕ). get_or xs k 0) has.at_bases ∙ numbered-at (section_base bytes p.start) (instantiated_count bytes) k 0 lt

pub total-at : (bytes : List ℕ) (p : Placement) (k : ℕ) → HasBases bytes p → k < instantiated_count bytes → get_or p.totals.items k 0 ≡ total_at bytes k
total-at bytes p k has lt = ap (λ (xs : List ℕ). get_or xs k 0) has.of_sizes ∙ numbered-at (total_at bytes) (instantiated_count bytes) k 0 lt

abbrev from : List ℕ → List ℕ → Sources
from b i = record { bases = b; imports = i }

-- relocating in memory is relocating the section's contents
pub relocated-is : (bytes : List ℕ) (p : Placement) (imports : List ℕ) (k : ℕ) (words : List ℕ) (m : Memory) → IsPlaced bytes p imports → k < instantiated_count bytes → words ≡ relocs_of bytes k
    → part (section_base bytes p.start k) (total_at bytes k) m.bytes ≡ contents_at bytes k
    → relocated_in k words p.bases.items p.totals.items imports m ≡ relocated_section bytes p.start k
relocated-is bytes p imports k words m placed lt words_is stands =
    ap (λ (b : ℕ). relocated (from p.bases.items imports) words (part b (get_or p.totals.items k 0) m.bytes)) (base-at bytes p k placed.bases lt)
    ∙ (ap (λ (t : ℕ). relocated (from p.bases.items imports) words (part (section_base bytes p.start k) t m.bytes)) (total-at bytes p k placed.bases lt)
    ∙ (ap (relocated (from p.bases.items imports) words) stands
    ∙ (ap (λ (w : List ℕ). relocated (from p.bases.items imports) w (contents_at bytes k)) words_is
    ∙ (ap (λ (b : List ℕ). relocated (from b imports) (relocs_of bytes k) (contents_at bytes k)) placed.bases.at_bases
    ∙ ap (λ (i : List ℕ). relocated (from (bases bytes p.start (instantiated_count bytes)) i) (relocs_of bytes k) (contents_at bytes k)) placed.from_imports))))

-- the same, whatever lists hold the placement
pub relocated-in-is : (bytes : List ℕ) (p : Placement) (imports : List ℕ) (k : ℕ) (words at sizes : List ℕ) (m : Memory) → at ≡ p.bases.items → sizes ≡ p.totals.items → IsPlaced bytes p imports → k < instantiated_count bytes
    → words ≡ relocs_of bytes k → part (section_base bytes p.start k) (total_at bytes k) m.bytes ≡ contents_at bytes k
    → relocated_in k words at sizes imports m ≡ relocated_section bytes p.start k
relocated-in-is bytes p imports k words at sizes m at_is sizes_is placed lt words_is stands =
    ap (λ (a : List ℕ). relocated_in k words a sizes imports m) at_is
    ∙ (ap (λ (s : List ℕ). relocated_in k words p.bases.items s imports m) sizes_is ∙ relocated-is bytes p imports k words m placed lt words_is stands)

pub bases-length : (bytes : List ℕ) (p : Placement) (at : List ℕ) → at ≡ p.bases.items → HasBases bytes p → length at ≡ instantiated_count bytes
bases-length bytes p at is has = ap length is ∙ (ap length has.at_bases ∙ numbered-length (section_base bytes p.start) (instantiated_count bytes))

pub totals-length : (bytes : List ℕ) (p : Placement) (sizes : List ℕ) → sizes ≡ p.totals.items → HasBases bytes p → length sizes ≡ instantiated_count bytes
totals-length bytes p sizes is has = ap length is ∙ (ap length has.of_sizes ∙ numbered-length (total_at bytes) (instantiated_count bytes))

pub inside-at : (m : Memory) (a n b t : ℕ) → a ≡ b → n ≡ t → b + t ≤ length m.bytes → in_memory m a n ≡ true
inside-at m a n b t a_is n_is within = let le : a + n ≤ length m.bytes = omega (arith, a_is, n_is, within) in grind (arith, nat_tests)
