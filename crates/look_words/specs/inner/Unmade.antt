-- The section of a container that was refused while it was made.
use Rattle.std.specs.Prelude.{◌≡◌, ℕ, Bool, Option, List, is_some, ◌<◌, ◌≤◌, ◌&&◌, nat_le, length, replicate, slice_index}
use Rattle.mix_bits.specs.Search.{least}
use Rattle.pef_head.specs.Container.{instantiated_count}
use Rattle.pef_head.specs.Parts.{import_count, relocs_of}
use Rattle.pef_reloc.specs.declared.error.RelocError.{RelocError}
use Rattle.pef_reloc.specs.declared.error.RelocError.TheVariants.{Pattern, Short, Unsupported, OutsideSection, ImportIndex, SectionIndex, RepeatFront, Work}
use Rattle.pef_reloc.specs.Program.{relocated}
use Rattle.mix_load.specs.Sections.{sources}
use Rattle.mix_load.specs.SectionsClauses.{patterns_refusal}
use Rattle.mix_load.specs.laws.Sections.{total_at}

-- whether the pattern data of a section is refused
abbrev pub is_badly_packed : List ℕ → ℕ → Bool
is_badly_packed bytes k = is_some (patterns_refusal bytes k)

-- whether the relocations of a section are refused in a container that begins behind `start`, whatever its bytes are; one that memory can't hold has none that could be
abbrev pub is_badly_relocated : List ℕ → ℕ → ℕ → Bool
is_badly_relocated bytes start k =
    nat_le (total_at bytes k) 16777216 && is_some (relocated (sources bytes start) (relocs_of bytes k) (replicate (total_at bytes k) 0)).refusal

-- the first section whose relocations are refused, wherever the container begins
abbrev pub IsBadlyRelocated : List ℕ → Option ℕ → Type 0
IsBadlyRelocated bytes section = (start : ℕ) → section ≡ least (is_badly_relocated bytes start) (instantiated_count bytes)

-- the first section that is refused in this way
abbrev pub IsUnmade : List ℕ → RelocError → Option ℕ → Type 0
IsUnmade bytes (Pattern at) section = section ≡ least (is_badly_packed bytes) (instantiated_count bytes)
IsUnmade bytes (Short at) section = IsBadlyRelocated bytes section
IsUnmade bytes (Unsupported word) section = IsBadlyRelocated bytes section
IsUnmade bytes (OutsideSection at) section = IsBadlyRelocated bytes section
IsUnmade bytes (ImportIndex i) section = IsBadlyRelocated bytes section
IsUnmade bytes (SectionIndex k) section = IsBadlyRelocated bytes section
IsUnmade bytes (RepeatFront at) section = IsBadlyRelocated bytes section
IsUnmade bytes Work section = IsBadlyRelocated bytes section

-- sections at the address 0, of their sizes, and as many imports as a container has
pub record HasSizes (bytes zeros sizes addresses : List ℕ) : Type 0 where
  pub bases : length zeros ≡ instantiated_count bytes
  pub low : (k : ℕ) → slice_index zeros k ≡ 0
  pub long : length sizes ≡ instantiated_count bytes
  pub totals : (k : ℕ) → k < instantiated_count bytes → slice_index sizes k ≡ total_at bytes k
  pub imports : length addresses ≡ import_count bytes

-- so many bytes hold each of sections of these sizes that memory can hold
abbrev pub Holds : List ℕ → ℕ → Type 0
Holds sizes room = (k : ℕ) → k < length sizes → slice_index sizes k ≤ 16777216 → slice_index sizes k ≤ room
