-- The loader section (Inside Macintosh: PowerPC System Software; Mac OS Runtime Architectures, 'PEF
-- Structure'): what its header names, and where its tables stand. Places count from the file's first byte.
--
-- The header is 14 longs: the section and offset of main, of the initialization routine and of the
-- termination routine, where the section -1 says that there is none; the counts of libraries, of symbols
-- and of relocation headers; the places of the relocation area and of the strings, counted from the
-- loader section; and three for the exports. The table of libraries follows, 24 bytes each, then that of
-- symbols, 4 bytes each, and that of relocation headers, 12 bytes each.
use Rattle.std.specs.Prelude.{ℕ, ◌+◌, List, unwrap_or}
use Rattle.pef_head.specs.declared.loader.Loader.{Loader}
use Rattle.mix_bits.specs.Fields.{long_at}
use Rattle.pef_head.specs.Container.{offset_of, packed_of, loader_section}

-- what the section with this number names, as a loader section
abbrev pub loader_in : List ℕ → ℕ → Loader
loader_in bytes k =
    let start = offset_of bytes k in
    record {
      start = start;
      end = start + packed_of bytes k;
      libraries = long_at bytes (start + 24);
      symbols = long_at bytes (start + 28);
      headers = long_at bytes (start + 32);
      area = long_at bytes (start + 36);
      strings = long_at bytes (start + 40);
    }

-- the loader of a container that has one
abbrev pub loader_of : List ℕ → Loader
loader_of bytes = loader_in bytes (unwrap_or (loader_section bytes) 0)
