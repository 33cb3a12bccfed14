-- The numbers and contents of the sections of a container.
use Rattle.std.specs.Prelude.{ℕ, List, Option, unwrap_or}
use Rattle.pef_head.specs.Parts.{section_at, import_of}
use Rattle.pef_reloc.specs.declared.error.RelocError.{RelocError}
use Rattle.mix_load.specs.Pieces.{numbered}
use Rattle.mix_load.specs.Sections.{section_base, pattern_refusal, import_address}

-- where the first sections stand, and their sizes in memory
abbrev pub bases : List ℕ → ℕ → ℕ → List ℕ
bases bytes start count = numbered (section_base bytes start) count

abbrev pub patterns_refusal : List ℕ → ℕ → Option RelocError
patterns_refusal bytes k = pattern_refusal (section_at bytes k)

-- the addresses of the first imports
abbrev pub address_at : List ℕ → ℕ → ℕ
address_at bytes i = unwrap_or (import_address (import_of bytes i)) 0

abbrev pub import_addresses : List ℕ → ℕ → List ℕ
import_addresses bytes count = numbered (address_at bytes) count
