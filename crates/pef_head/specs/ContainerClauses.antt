-- Where section headers and packed bytes lie in a container that is read.
use Rattle.std.specs.Prelude.{◌≡◌, false, ℕ, ◌+◌, ◌≤◌, ◌<◌, List, length, Bool, ◌||◌, ◌==◌, nat_lt}
use Rattle.mix_bits.specs.declared.file.TheConstants.{MOST_BYTES}
use Rattle.pef_head.specs.Container.{section_count, instantiated_count, section_header, packed_of, offset_of, exponent_of, is_malformed}

-- the section headers are in the file, which has at most 16 MiB
pub record HasHeaders (bytes : List ℕ) : Type 0 where
  pub headers_fit : section_header (section_count bytes) ≤ length bytes
  pub small : length bytes ≤ MOST_BYTES

-- a section's header and packed bytes are in the file, and it can be instantiated
pub record IsSection (bytes : List ℕ) (k : ℕ) : Type 0 where
  pub header_fits : section_header k + 28 ≤ length bytes
  pub bytes_fit : offset_of bytes k + packed_of bytes k ≤ length bytes
  pub aligned : exponent_of bytes k ≤ 12
  pub well_formed : is_malformed bytes k ≡ false

-- all packed bytes are in the file, and the instantiated sections are as they should be
pub record HasSections (bytes : List ℕ) : Type 0 where
  pub pieces : (k : ℕ) → k < section_count bytes → offset_of bytes k + packed_of bytes k ≤ length bytes
  pub instantiated : (k : ℕ) → k < instantiated_count bytes → IsSection bytes k

-- kinds that are not instantiated: the loader's, debug's, and those above executable data
abbrev pub is_uninstantiable : ℕ → Bool
is_uninstantiable kind = kind == 4 || kind == 5 || nat_lt 6 kind
