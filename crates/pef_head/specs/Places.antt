-- The entries of the loader section's tables, and the fields of an entry.
--
-- A library has longs for its name, two versions, the count of its symbols and its first symbol, and
-- four bytes that are not read. A symbol has a byte for its class, in which $80 says that it is weak, and
-- three for its name. A relocation header has a word for its section, a word 0, a long with the count of
-- its words and a long with the place of the first of them, counted from the relocation area. Names count
-- from the strings and end with a zero byte.
use Rattle.std.specs.Prelude.{ℕ, ◌+◌, ◌*◌, Bool, ◌&&◌, nat_lt, nat_le, List, slice_range, ◌==◌}
use Rattle.std.specs.List.{list_any}
use Rattle.pef_head.specs.declared.loader.Loader.{Loader}
use Rattle.mix_bits.specs.Fields.{word_at, three_at, long_at}

abbrev pub library : Loader → ℕ → ℕ
library l j = l.start + 56 + 24 * j

abbrev pub symbol : Loader → ℕ → ℕ
symbol l i = l.start + 56 + 24 * l.libraries + 4 * i

abbrev pub relocation : Loader → ℕ → ℕ
relocation l h = l.start + 56 + 24 * l.libraries + 4 * l.symbols + 12 * h

-- the first symbol of a library, and the one behind its last
abbrev pub symbols_start : List ℕ → Loader → ℕ → ℕ
symbols_start bytes l j = long_at bytes (library l j + 16)

abbrev pub symbols_end : List ℕ → Loader → ℕ → ℕ
symbols_end bytes l j = symbols_start bytes l j + long_at bytes (library l j + 12)

-- the library has the symbol
abbrev pub holds : List ℕ → Loader → ℕ → ℕ → Bool
holds bytes l i j = nat_le (symbols_start bytes l j) i && nat_lt i (symbols_end bytes l j)

-- the section that a relocation header is for
abbrev pub relocated : List ℕ → Loader → ℕ → ℕ
relocated bytes l h = word_at bytes (relocation l h)

-- the place of a header's first word, and the place behind its last
abbrev pub words_start : List ℕ → Loader → ℕ → ℕ
words_start bytes l h = l.start + l.area + long_at bytes (relocation l h + 8)

abbrev pub words_end : List ℕ → Loader → ℕ → ℕ
words_end bytes l h = words_start bytes l h + 2 * long_at bytes (relocation l h + 4)

-- the place of a library's name, and of a symbol's
abbrev pub library_name : List ℕ → Loader → ℕ → ℕ
library_name bytes l j = l.start + l.strings + long_at bytes (library l j)

abbrev pub symbol_name : List ℕ → Loader → ℕ → ℕ
symbol_name bytes l i = l.start + l.strings + three_at bytes (symbol l i + 1)

-- a name at this place ends in the loader section
abbrev pub has_end : List ℕ → Loader → ℕ → Bool
has_end bytes l from = list_any (λ byte. byte == 0) (slice_range bytes from l.end)
