-- Where the loader section's tables lie in a container that is read.
use Rattle.std.specs.Prelude.{ℕ, ◌+◌, ◌≤◌, List, length}
use Rattle.mix_bits.specs.declared.file.TheConstants.{MOST_BYTES}
use Rattle.pef_head.specs.declared.loader.Loader.{Loader}
use Rattle.pef_head.specs.Places.{library, symbol, relocation}

-- the loader section and its tables are in the file, which has at most 16 MiB
pub record HasTables (bytes : List ℕ) (l : Loader) : Type 0 where
  pub header_fits : l.start + 56 ≤ l.end
  pub libraries_fit : library l l.libraries ≤ l.end
  pub symbols_fit : symbol l l.symbols ≤ l.end
  pub relocations_fit : relocation l l.headers ≤ l.end
  pub end_fits : l.end ≤ length bytes
  pub small : length bytes ≤ MOST_BYTES
