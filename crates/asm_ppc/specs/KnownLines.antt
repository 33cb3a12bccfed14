-- A line that is known to give a word.
use Rattle.std.specs.Prelude.{ℕ, List}
use Rattle.asm_ppc.specs.Assembly.{Gives}

-- a line that gives a word
abbrev pub GivesSome : List ℕ → ℕ → Type 0
GivesSome line at = (w : ℕ) × Gives line at w
