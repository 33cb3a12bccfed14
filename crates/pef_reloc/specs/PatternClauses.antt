-- The first piece of pattern data.
use Rattle.std.specs.Prelude.{ℕ, ◌/◌, List, [], ◌∷◌, Option, None}
use Rattle.pef_reloc.specs.Reads.{Read}
use Rattle.pef_reloc.specs.PatternOperator.{◌>>=◌}
use Rattle.pef_reloc.specs.Pattern.{count_in, opcode_in}

-- what the first instruction writes
abbrev pub piece_in : List ℕ → Option (Read (List ℕ))
piece_in [] = None
piece_in (byte ∷ bytes) = count_in byte bytes >>= λ count rest. opcode_in (byte / 32) count rest
