-- The parts of a container by their numbers: the library of a symbol, its import with names cut, a relocation header.
use Rattle.std.specs.Prelude.{ℕ, List, take, Option, unwrap_or, ◌==◌}
use Rattle.pef_head.specs.Loader.{loader_of}
use Rattle.pef_head.specs.Parts.{ImportParts}
use Rattle.pef_head.specs.declared.loader.Loader.{Loader}
use Rattle.mix_bits.specs.Search.{least}
use Rattle.pef_head.specs.Places.{holds, relocated}

-- the library that has a symbol
abbrev pub owner_of : List ℕ → Loader → ℕ → ℕ
owner_of bytes l i = unwrap_or (least (holds bytes l i) l.libraries) 0

-- the library of a symbol
abbrev pub library_of : List ℕ → ℕ → ℕ
library_of bytes i = owner_of bytes (loader_of bytes) i

-- an import with the first bytes of its names, at most so many of each
abbrev pub cut : ℕ → ImportParts → ImportParts
cut most i = record { library = take most i.library; name = take most i.name; weak = i.weak }

-- the first relocation header of a section
abbrev pub header_for : List ℕ → Loader → ℕ → Option ℕ
header_for bytes l k = least (λ h. relocated bytes l h == k) l.headers

abbrev pub reloc_header_of : List ℕ → ℕ → Option ℕ
reloc_header_of bytes k = header_for bytes (loader_of bytes) k
