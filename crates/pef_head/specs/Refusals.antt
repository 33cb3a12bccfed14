-- Why a container is refused: the first of these rules, in this order, that it breaks. The rules and
-- their order are this project's own. The refusal `Loader` is called `Table` here, beside the type of that name.
use Rattle.std.specs.Prelude.{ℕ, ◌+◌, Bool, ◌&&◌, ◌||◌, ◌==◌, not, nat_lt, nat_le, List, length, Option, is_none, option_map}
use Rattle.pef_head.specs.declared.error.PefError.{PefError}
use Rattle.pef_head.specs.declared.error.PefError.TheVariants.{Short, Magic, Architecture, Version, Section, NoLoader, Loader as Table, Name, Init}
use Rattle.pef_head.specs.declared.loader.Loader.{Loader}
use Rattle.mix_bits.specs.Fields.{long_at}
use Rattle.mix_bits.specs.SearchOperator.{◌or◌}
use Rattle.mix_bits.specs.Search.{refused, least, count_below, any_below}
use Rattle.pef_head.specs.Container.{section_count, instantiated_count, section_header, is_bad_section, loader_section}
use Rattle.pef_head.specs.Loader.{loader_of}
use Rattle.pef_head.specs.Places.{library, symbol, relocation, symbols_end, holds, relocated, words_end, library_name, symbol_name, has_end}

-- a relocation header's section is not instantiated or had one before, or its words leave the section
abbrev pub is_bad_relocation : List ℕ → Loader → ℕ → Bool
is_bad_relocation bytes l h =
    nat_le (instantiated_count bytes) (relocated bytes l h)
    || any_below (λ g. relocated bytes l g == relocated bytes l h) h
    || nat_lt l.end (words_end bytes l h)

-- The header: it is in the file, with 'Joy!', 'peff', 'pwpc' and its version, and the section headers follow. The
-- sections, of which no more are instantiated than there are. The loader section and its tables, which do not leave it;
-- their entries: a library's symbols do not leave the symbol table, and a symbol is in one library. The names, which
-- have an end. And there is no initialization routine: its section is -1.
abbrev pub refusal_of : List ℕ → Option PefError
refusal_of bytes =
    let l = loader_of bytes in
    refused (nat_lt (length bytes) 40) (Short (length bytes))
    or refused (not (long_at bytes 0 == 0x4A6F_7921 && long_at bytes 4 == 0x7065_6666)) Magic
    or refused (not (long_at bytes 8 == 0x7077_7063)) Architecture
    or refused (not (long_at bytes 12 == 1)) Version
    or refused (nat_lt (length bytes) (section_header (section_count bytes))) (Short (length bytes))
    or option_map (λ k. Section k) (least (is_bad_section bytes) (section_count bytes))
    or refused (nat_lt (section_count bytes) (instantiated_count bytes)) (Section (section_count bytes))
    or refused (is_none (loader_section bytes)) NoLoader
    or refused (nat_lt l.end (l.start + 56)) (Table l.start)
    or refused (nat_lt l.end (library l l.libraries)) (Table (library l 0))
    or refused (nat_lt l.end (symbol l l.symbols)) (Table (symbol l 0))
    or refused (nat_lt l.end (relocation l l.headers)) (Table (relocation l 0))
    or option_map (λ j. Table (library l j)) (least (λ j. nat_lt l.symbols (symbols_end bytes l j)) l.libraries)
    or option_map (λ i. Table (symbol l i)) (least (λ i. not (count_below (holds bytes l i) l.libraries == 1)) l.symbols)
    or option_map (λ h. Table (relocation l h)) (least (is_bad_relocation bytes l) l.headers)
    or option_map (λ j. Name (library l j)) (least (λ j. not (has_end bytes l (library_name bytes l j))) l.libraries)
    or option_map (λ i. Name (symbol l i)) (least (λ i. not (has_end bytes l (symbol_name bytes l i))) l.symbols)
    or refused (not (long_at bytes (l.start + 8) == 0xFFFF_FFFF)) Init
