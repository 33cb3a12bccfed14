-- The parts of a container by its loader section.
use Rattle.std.specs.Prelude.{ℕ, Bool, ◌==◌, not, bit_and, List, [], slice_index, slice_range}
use Rattle.std.specs.Option.{option_map_or}
use Rattle.pef_head.specs.declared.loader.Loader.{Loader}
use Rattle.pef_head.specs.Names.{name_at}
use Rattle.pef_head.specs.Places.{symbol, words_start, words_end, library_name, symbol_name}
use Rattle.pef_head.specs.PartsByNumber.{owner_of, header_for}
use Rattle.pef_head.specs.Parts.{ImportParts}

abbrev pub is_weak : List ℕ → Loader → ℕ → Bool
is_weak bytes l i = not (bit_and (slice_index bytes (symbol l i)) 0x80 == 0)

abbrev pub import_at : List ℕ → Loader → ℕ → ImportParts
import_at bytes l i =
    record {
      library = name_at bytes l (library_name bytes l (owner_of bytes l i));
      name = name_at bytes l (symbol_name bytes l i);
      weak = is_weak bytes l i;
    }

-- the words of a section's relocation header
abbrev pub relocs_at : List ℕ → Loader → ℕ → List ℕ
relocs_at bytes l k =
    option_map_or (λ h. slice_range bytes (words_start bytes l h) (words_end bytes l h)) (header_for bytes l k) []
