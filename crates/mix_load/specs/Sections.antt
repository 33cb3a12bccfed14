-- The instantiated sections of a container in memory (Inside Macintosh: PowerPC System Software; Mac OS
-- Runtime Architectures, 'PEF Structure'). Where they are placed is this project's own.
use Rattle.std.specs.Prelude.{ℕ, zero, suc, ◌+◌, max, Bool, ◌&&◌, nat_lt, nat_le, if◌then◌else◌, List, Option, Some, None, unwrap_or, ◌++◌, ◌-◌, replicate}
use Rattle.pef_head.specs.Container.{instantiated_count, is_pattern}
use Rattle.pef_head.specs.Parts.{SectionParts, ImportParts, section_at, import_count, main_of, relocs_of, import_of}
use Rattle.mix_bits.specs.SearchOperator.{◌or◌}
use Rattle.pef_reloc.specs.declared.error.RelocError.{RelocError}
use Rattle.pef_reloc.specs.Additions.{Sources}
use Rattle.pef_reloc.specs.Pattern.{unpacked}
use Rattle.pef_reloc.specs.Program.{Relocated, relocated}
use Rattle.big_memory.specs.Map.{host_vector_at}
use Rattle.toolbox.specs.Names.{import_index}
use Rattle.mix_bits.specs.Multiples.{rounded_up}
use Rattle.mix_load.specs.Pieces.{numbered}

-- where a section stands that follows an end: at a multiple of 16 and of its alignment, a power of two
abbrev pub base_behind : SectionParts → ℕ → ℕ
base_behind s end = rounded_up (max 16 s.align) end

-- where the first sections end
abbrev pub sections_end : List ℕ → ℕ → ℕ → ℕ
sections_end bytes start zero = start
sections_end bytes start (suc k) =
    base_behind (section_at bytes k) (sections_end bytes start k) + (section_at bytes k).total

abbrev pub section_base : List ℕ → ℕ → ℕ → ℕ
section_base bytes start k = base_behind (section_at bytes k) (sections_end bytes start k)

-- why its pattern data is refused, if it is
abbrev pub pattern_refusal : SectionParts → Option RelocError
pattern_refusal s = if is_pattern s.kind then (unpacked s.bytes s.unpacked).refusal else None

-- the first refusal among the numbers below a count
abbrev pub first_refusal : {A : Type 0} → (ℕ → Option A) → ℕ → Option A
first_refusal refusal zero = None
first_refusal refusal (suc k) = first_refusal refusal k or refusal k

-- an import is the transition vector of a host function; a weak one that the host lacks is 0
abbrev pub resolved : Bool → Option ℕ → Option ℕ
resolved weak None = if weak then Some 0 else None
resolved weak (Some k) = Some (host_vector_at k)

abbrev pub import_address : ImportParts → Option ℕ
import_address i = resolved i.weak (import_index i.library i.name)

-- what relocations add
abbrev pub sources : List ℕ → ℕ → Sources
sources bytes start =
    record {
      bases = numbered (section_base bytes start) (instantiated_count bytes);
      imports = numbered (λ i. unwrap_or (import_address (import_of bytes i)) 0) (import_count bytes);
    }

-- a section after its relocations, or as far as they came: before them it has its bytes of the file, and zeros behind
abbrev pub relocated_section : List ℕ → ℕ → ℕ → Relocated
relocated_section bytes start k =
    let s = section_at bytes k in
    let given = if is_pattern s.kind then (unpacked s.bytes s.unpacked).written else s.bytes in
    relocated (sources bytes start) (relocs_of bytes k) (given ++ replicate (s.total - s.unpacked) 0)

-- the address of the main vector, where its 8 bytes lie in its section
abbrev pub vector_in : List ℕ → ℕ → Option (ℕ × ℕ) → Option ℕ
vector_in bytes start None = None
vector_in bytes start (Some main) =
    if nat_lt main.0 (instantiated_count bytes) && nat_le (main.1 + 8) (section_at bytes main.0).total
    then Some (section_base bytes start main.0 + main.1)
    else None

abbrev pub main_vector : List ℕ → ℕ → Option ℕ
main_vector bytes start = vector_in bytes start (main_of bytes)
