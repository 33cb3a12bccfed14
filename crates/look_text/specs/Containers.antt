-- The sections and imports of a container, line by line.
use Rattle.std.specs.Prelude.{ℕ, zero, suc, ◌==◌, List, [], ◌∷◌, ◌++◌, codes, decimal, if◌then◌else◌, Bool, true, false, Option, Some, None}
use Rattle.mix_bits.specs.Text.{hexadecimal}
use Rattle.big_memory.specs.Map.{host_vector_at}
use Rattle.pef_head.specs.declared.error.PefError.{PefError}
use Rattle.pef_head.specs.Container.{instantiated_count}
use Rattle.pef_head.specs.Parts.{ImportParts, SectionParts, import_count, import_of, section_at}
use Rattle.pef_head.specs.PartsByNumber.{cut}
use Rattle.pef_head.specs.Refusals.{refusal_of}
use Rattle.toolbox.specs.Names.{import_index}
use Rattle.mix_load.specs.Sections.{section_base}
use Rattle.look_text.specs.Pieces.{address_text, joined}

abbrev pub kind_name : ℕ → List ℕ
kind_name kind =
    if kind == 0 then codes "code"
    else (if kind == 1 then codes "data"
    else (if kind == 2 then codes "pattern data"
    else (if kind == 3 then codes "constant" else codes "executable data")))

-- `section K: KIND at ADDRESS, SIZE bytes`
abbrev pub section_line : ℕ → ℕ → ℕ → ℕ → List ℕ
section_line k kind base size =
    joined (codes "section " ∷ decimal k ∷ codes ": " ∷ kind_name kind ∷ codes " at " ∷ address_text base ∷ codes ", " ∷ decimal size ∷ codes " bytes\n" ∷ [])

unfoldable pub section_text : ℕ → SectionParts → ℕ → List ℕ
section_text k section base = section_line k section.kind base section.total

-- the first sections, which begin behind `start`
abbrev pub sections_text : List ℕ → ℕ → ℕ → List ℕ
sections_text bytes start zero = []
sections_text bytes start (suc k) = sections_text bytes start k ++ section_text k (section_at bytes k) (section_base bytes start k)

unfoldable pub host_line : ℕ → ℕ → List ℕ
host_line k vector = joined (codes ", host function " ∷ decimal k ∷ codes " at " ∷ hexadecimal 8 vector ∷ codes "\n" ∷ [])

-- the host function of an import; one that may be missing is 0 then
abbrev pub host_text : Option ℕ → Bool → List ℕ
host_text (Some k) weak = host_line k (host_vector_at k)
host_text None true = codes ", not in the library, and may be missing\n"
host_text None false = codes ", not in the library\n"

unfoldable pub import_line : ℕ → ImportParts → List ℕ
import_line i import =
    joined (codes "import " ∷ decimal i ∷ codes ": " ∷ import.library ∷ codes " " ∷ import.name ∷ [])
    ++ host_text (import_index import.library import.name) import.weak

-- the first imports, with the first 255 bytes of their names: no name of a host function has so many
abbrev pub imports_text : List ℕ → ℕ → List ℕ
imports_text bytes zero = []
imports_text bytes (suc i) = imports_text bytes i ++ import_line i (cut 255 (import_of bytes i))

abbrev pub parts_text : List ℕ → ℕ → List ℕ
parts_text bytes start = sections_text bytes start (instantiated_count bytes) ++ imports_text bytes (import_count bytes)

abbrev pub container_by : Option PefError → List ℕ → ℕ → List ℕ
container_by None bytes start = parts_text bytes start
container_by (Some e) bytes start = []

-- a container behind `start`; nothing of one whose head is refused
abbrev pub container_text : List ℕ → ℕ → List ℕ
container_text bytes start = container_by (refusal_of bytes) bytes start
