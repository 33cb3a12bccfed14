-- A line that is known to give words.
use Rattle.std.specs.Prelude.{ℕ, List}
use Rattle.asm_m68.specs.Assembly.{Gives}

-- a line that gives words
abbrev pub GivesSome : List ℕ → ℕ → Type 0
GivesSome line at = (ws : List ℕ) × Gives line at ws
