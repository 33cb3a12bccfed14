-- Sections and imports as they are placed.
use Rattle.std.specs.Prelude.{◌≡◌, ◌<◌, ◌^◌, length, ℕ, List, ◌-◌, Bool, if◌then◌else◌, ◌++◌, replicate, Option, is_none}
use Rattle.big_memory.specs.Lists.{part}
use Rattle.pef_head.specs.Container.{instantiated_count, is_pattern}
use Rattle.pef_head.specs.Parts.{import_count, SectionParts, import_of, section_at}
use Rattle.switch_frame.specs.Pieces.{Piece}
use Rattle.mix_load.specs.declared.sections.Placement.{Placement}
use Rattle.mix_load.specs.Pieces.{numbered, numbered_pieces}
use Rattle.mix_load.specs.Sections.{section_base, import_address, relocated_section}
use Rattle.mix_load.specs.SectionsClauses.{bases, import_addresses}
use Rattle.mix_load.specs.laws.Sections.{total_at}
use Rattle.pef_reloc.specs.declared.error.RelocError.{RelocError}
use Rattle.pef_reloc.specs.Pattern.{unpacked}

-- the bytes that a section has from the file, and zeros behind them
abbrev pub unpacked_bytes : SectionParts → List ℕ
unpacked_bytes s = if is_pattern s.kind then (unpacked s.bytes s.unpacked).written else s.bytes

abbrev pub contents : SectionParts → List ℕ
contents s = unpacked_bytes s ++ replicate (s.total - s.unpacked) 0

-- the first sections before relocation
abbrev pub contents_at : List ℕ → ℕ → List ℕ
contents_at bytes k = contents (section_at bytes k)

abbrev pub totals : List ℕ → ℕ → List ℕ
totals bytes count = numbered (total_at bytes) count

abbrev pub section_pieces : List ℕ → ℕ → ℕ → List Piece
section_pieces bytes start count = numbered_pieces (section_base bytes start) (contents_at bytes) count

-- a placement has the bases and sizes of all sections
pub record HasBases (bytes : List ℕ) (p : Placement) : Type 0 where
  pub at_bases : p.bases.items ≡ bases bytes p.start (instantiated_count bytes)
  pub of_sizes : p.totals.items ≡ totals bytes (instantiated_count bytes)

-- and with it come the imports' addresses
pub record IsPlaced (bytes : List ℕ) (p : Placement) (imports : List ℕ) : Type 0 where
  pub bases : HasBases bytes p
  pub from_imports : imports ≡ import_addresses bytes (import_count bytes)
  pub few : length imports < 2 ^ 32

-- the first sections stand in memory with these bytes
abbrev pub Stand : List ℕ → ℕ → (ℕ → List ℕ) → ℕ → List ℕ → Type 0
Stand bytes start held count memory =
    (k : ℕ) → k < count → part (section_base bytes start k) (total_at bytes k) memory ≡ held k

abbrev pub is_missing : List ℕ → ℕ → Bool
is_missing bytes i = is_none (import_address (import_of bytes i))

abbrev pub relocs_refusal : List ℕ → ℕ → ℕ → Option RelocError
relocs_refusal bytes start k = (relocated_section bytes start k).refusal

-- the first sections after relocation
abbrev pub relocated_bytes : List ℕ → ℕ → ℕ → List ℕ
relocated_bytes bytes start k = (relocated_section bytes start k).section

abbrev pub relocated_pieces : List ℕ → ℕ → ℕ → List Piece
relocated_pieces bytes start count = numbered_pieces (section_base bytes start) (relocated_bytes bytes start) count
