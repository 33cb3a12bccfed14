-- What makes a file a container, without an order among the rules.
use Rattle.std.specs.Prelude.{◌≡◌, ◌≢◌, ℕ, ◌+◌, ◌<◌, ◌≤◌, Bool, true, false, List, length, IsSome}
use Rattle.pef_head.specs.declared.loader.Loader.{Loader}
use Rattle.mix_bits.specs.Fields.{long_at}
use Rattle.pef_head.specs.Container.{section_count, instantiated_count, section_header, kind_of, total_of, unpacked_of, packed_of, offset_of, exponent_of, is_pattern, loader_section}
use Rattle.pef_head.specs.ContainerClauses.{is_uninstantiable}
use Rattle.pef_head.specs.Loader.{loader_of}
use Rattle.pef_head.specs.Places.{library, symbol, relocation, symbols_end, holds, relocated, words_end, library_name, symbol_name, has_end}

-- exactly one number below a bound passes the test
abbrev pub OnlyBelow : (ℕ → Bool) → ℕ → Type 0
OnlyBelow test n = (j : ℕ) × (j < n) × (test j ≡ true) × ((m : ℕ) → m < n → test m ≡ true → m ≡ j)

-- the section can be instantiated
pub record IsInstantiable (bytes : List ℕ) (k : ℕ) : Type 0 where
  pub kind : is_uninstantiable (kind_of bytes k) ≡ false
  pub aligned : exponent_of bytes k ≤ 12
  pub kept : unpacked_of bytes k ≤ total_of bytes k
  pub packed : is_pattern (kind_of bytes k) ≡ false → packed_of bytes k ≡ unpacked_of bytes k

-- the tables are in the loader section, each symbol is in one library, each relocation header is the only one of its
-- section, names end, and there is no initialization routine
pub record IsLoader (bytes : List ℕ) (l : Loader) : Type 0 where
  pub header_fits : l.start + 56 ≤ l.end
  pub libraries_fit : library l l.libraries ≤ l.end
  pub symbols_fit : symbol l l.symbols ≤ l.end
  pub relocations_fit : relocation l l.headers ≤ l.end
  pub within : (j : ℕ) → j < l.libraries → symbols_end bytes l j ≤ l.symbols
  pub owned : (i : ℕ) → i < l.symbols → OnlyBelow (holds bytes l i) l.libraries
  pub instantiated : (h : ℕ) → h < l.headers → relocated bytes l h < instantiated_count bytes
  pub once : (h g : ℕ) → h < l.headers → g < h → relocated bytes l g ≢ relocated bytes l h
  pub words : (h : ℕ) → h < l.headers → words_end bytes l h ≤ l.end
  pub libraries_named : (j : ℕ) → j < l.libraries → has_end bytes l (library_name bytes l j) ≡ true
  pub symbols_named : (i : ℕ) → i < l.symbols → has_end bytes l (symbol_name bytes l i) ≡ true
  pub no_init : long_at bytes (l.start + 8) ≡ 0xFFFF_FFFF

pub record IsContainer (bytes : List ℕ) : Type 0 where
  pub header_fits : 40 ≤ length bytes
  pub joy : long_at bytes 0 ≡ 0x4A6F_7921
  pub peff : long_at bytes 4 ≡ 0x7065_6666
  pub pwpc : long_at bytes 8 ≡ 0x7077_7063
  pub version : long_at bytes 12 ≡ 1
  pub headers_fit : section_header (section_count bytes) ≤ length bytes
  pub pieces : (k : ℕ) → k < section_count bytes → offset_of bytes k + packed_of bytes k ≤ length bytes
  pub instantiable : (k : ℕ) → k < instantiated_count bytes → IsInstantiable bytes k
  pub enough : instantiated_count bytes ≤ section_count bytes
  pub found : IsSome (loader_section bytes)
  pub loader : IsLoader bytes (loader_of bytes)
