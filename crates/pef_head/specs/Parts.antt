-- What a container's accessors give: fields and slices of its file.
use Rattle.std.specs.Prelude.{ℕ, ◌+◌, ◌^◌, Bool, ◌==◌, if◌then◌else◌, List, [], slice_range, Option, Some, None, not, unwrap_or, slice_index, bit_and}
use Rattle.mix_bits.specs.Fields.{long_at}
use Rattle.pef_head.specs.Container.{kind_of, total_of, unpacked_of, packed_of, offset_of, exponent_of}
use Rattle.pef_head.specs.Loader.{loader_of}
use Rattle.pef_head.specs.Places.{holds, relocated, symbol, words_end, library_name, symbol_name, words_start}
use Rattle.mix_bits.specs.Search.{least}
use Rattle.std.specs.Option.{option_map_or}
use Rattle.pef_head.specs.Names.{name_at}

-- a section, with its packed bytes as a list
pub record SectionParts : Type 0 where
  pub kind : ℕ
  pub total : ℕ
  pub unpacked : ℕ
  pub align : ℕ
  pub bytes : List ℕ

abbrev pub section_at : List ℕ → ℕ → SectionParts
section_at bytes k =
    record {
      kind = kind_of bytes k;
      total = total_of bytes k;
      unpacked = unpacked_of bytes k;
      align = 2 ^ exponent_of bytes k;
      bytes = slice_range bytes (offset_of bytes k) (offset_of bytes k + packed_of bytes k);
    }

-- the section and the offset of main, unless the section is -1
abbrev pub main_of : List ℕ → Option (ℕ × ℕ)
main_of bytes =
    let start = (loader_of bytes).start in
    if long_at bytes start == 0xFFFF_FFFF then None else Some (long_at bytes start, long_at bytes (start + 4))

abbrev pub import_count : List ℕ → ℕ
import_count bytes = (loader_of bytes).symbols

-- an import, with its names as lists
pub record ImportParts : Type 0 where
  pub library : List ℕ
  pub name : List ℕ
  pub weak : Bool

abbrev pub import_of : List ℕ → ℕ → ImportParts
import_of bytes i =
    let l = loader_of bytes in
    let owner = unwrap_or (least (holds bytes l i) l.libraries) 0 in
    record {
      library = name_at bytes l (library_name bytes l owner);
      name = name_at bytes l (symbol_name bytes l i);
      weak = not (bit_and (slice_index bytes (symbol l i)) 0x80 == 0);
    }

abbrev pub relocs_of : List ℕ → ℕ → List ℕ
relocs_of bytes k =
    let l = loader_of bytes in
    let header = least (λ h. relocated bytes l h == k) l.headers in
    option_map_or (λ h. slice_range bytes (words_start bytes l h) (words_end bytes l h)) header []
