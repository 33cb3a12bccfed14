-- What a trap word calls (Inside Macintosh: Operating System Utilities, chapter 8, 'Trap Manager').
--
-- A word from $A000 to $AFFF is a trap. Bit 11 tells the Toolbox's from the Operating System's. The lowest ten bits of the
-- former say what is called, and the lowest eight of the latter; the others are flags.
use Rattle.std.specs.Prelude.{ℕ, ◌+◌, ◌*◌, ◌/◌, ◌%◌, ◌==◌, if◌then◌else◌, List, [], ◌∷◌, Option, Some, None, map}
use Rattle.trap_names.specs.declared.traps.TheConstants.{TRAPS}

-- a trap word without its flags
abbrev pub trap_number : ℕ → ℕ
trap_number word =
    if word / 2048 % 2 == 1 then word / 2048 * 2048 + word % 1024 else word / 2048 * 2048 + word % 256

-- a row of the table: a trap word, and the name of what it calls
abbrev pub Row : Type 0
Row = ℕ × List ℕ

-- the name in the first row whose trap has a number
abbrev pub name_in : List Row → ℕ → Option (List ℕ)
name_in [] number = None
name_in (row ∷ rows) number = if trap_number row.0 == number then Some row.1 else name_in rows number

-- the rows of the code
unfoldable pub trap_rows : List Row
trap_rows = map (λ row. (row.0, row.1.now)) TRAPS

-- the name of what a trap word calls
abbrev pub name_of : ℕ → Option (List ℕ)
name_of word = name_in trap_rows (trap_number word)
