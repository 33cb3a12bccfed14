-- The refusals part by part, as the tests of a container give them.
use Rattle.std.specs.Prelude.{ℕ, ◌+◌, Bool, ◌&&◌, ◌==◌, not, nat_lt, List, length, Option, Some, None, option_map}
use Rattle.pef_head.specs.declared.error.PefError.{PefError}
use Rattle.pef_head.specs.declared.error.PefError.TheVariants.{Short, Magic, Architecture, Version, Section, NoLoader, Loader as Table, Name, Init}
use Rattle.pef_head.specs.declared.loader.Loader.{Loader}
use Rattle.mix_bits.specs.Fields.{long_at}
use Rattle.mix_bits.specs.SearchOperator.{◌or◌}
use Rattle.mix_bits.specs.Search.{refused, least}
use Rattle.pef_head.specs.Container.{section_count, instantiated_count, section_header, is_bad_section, loader_section}
use Rattle.pef_head.specs.Loader.{loader_in}
use Rattle.pef_head.specs.Places.{library, symbol, relocation, symbols_end, library_name, symbol_name, has_end}
use Rattle.pef_head.specs.Owners.{is_lost}
use Rattle.pef_head.specs.Refusals.{is_bad_relocation}

-- 'Joy!' and 'peff'
abbrev pub has_magic : List ℕ → Bool
has_magic bytes = long_at bytes 0 == 0x4A6F_7921 && long_at bytes 4 == 0x7065_6666

-- 'pwpc'
abbrev pub has_architecture : List ℕ → Bool
has_architecture bytes = long_at bytes 8 == 0x7077_7063

abbrev pub header_refusal : List ℕ → Option PefError
header_refusal bytes =
    refused (nat_lt (length bytes) 40) (Short (length bytes))
    or refused (not (has_magic bytes)) Magic
    or refused (not (has_architecture bytes)) Architecture
    or refused (not (long_at bytes 12 == 1)) Version
    or refused (nat_lt (length bytes) (section_header (section_count bytes))) (Short (length bytes))

abbrev pub sections_refusal : List ℕ → Option PefError
sections_refusal bytes =
    option_map (λ k. Section k) (least (is_bad_section bytes) (section_count bytes))
    or refused (nat_lt (section_count bytes) (instantiated_count bytes)) (Section (section_count bytes))

-- the tables leave the loader section
abbrev pub tables_refusal : Loader → Option PefError
tables_refusal l =
    refused (nat_lt l.end (l.start + 56)) (Table l.start)
    or refused (nat_lt l.end (library l l.libraries)) (Table (library l 0))
    or refused (nat_lt l.end (symbol l l.symbols)) (Table (symbol l 0))
    or refused (nat_lt l.end (relocation l l.headers)) (Table (relocation l 0))

-- a library's symbols leave the symbol table
abbrev pub leaves_symbols : List ℕ → Loader → ℕ → Bool
leaves_symbols bytes l j = nat_lt l.symbols (symbols_end bytes l j)

abbrev pub entries_refusal : List ℕ → Loader → Option PefError
entries_refusal bytes l =
    option_map (λ j. Table (library l j)) (least (leaves_symbols bytes l) l.libraries)
    or option_map (λ i. Table (symbol l i)) (least (is_lost bytes l) l.symbols)
    or option_map (λ h. Table (relocation l h)) (least (is_bad_relocation bytes l) l.headers)

abbrev pub is_nameless_library : List ℕ → Loader → ℕ → Bool
is_nameless_library bytes l j = not (has_end bytes l (library_name bytes l j))

abbrev pub is_nameless_symbol : List ℕ → Loader → ℕ → Bool
is_nameless_symbol bytes l i = not (has_end bytes l (symbol_name bytes l i))

abbrev pub names_refusal : List ℕ → Loader → Option PefError
names_refusal bytes l =
    option_map (λ j. Name (library l j)) (least (is_nameless_library bytes l) l.libraries)
    or option_map (λ i. Name (symbol l i)) (least (is_nameless_symbol bytes l) l.symbols)

-- there is an initialization routine: its section is not -1
abbrev pub init_refusal : List ℕ → Loader → Option PefError
init_refusal bytes l = refused (not (long_at bytes (l.start + 8) == 0xFFFF_FFFF)) Init

abbrev pub loader_refusal : List ℕ → Option ℕ → Option PefError
loader_refusal bytes None = Some NoLoader
loader_refusal bytes (Some k) =
    let l = loader_in bytes k in
    tables_refusal l or entries_refusal bytes l or names_refusal bytes l or init_refusal bytes l

abbrev pub refusal_in_parts : List ℕ → Option PefError
refusal_in_parts bytes = header_refusal bytes or sections_refusal bytes or loader_refusal bytes (loader_section bytes)
