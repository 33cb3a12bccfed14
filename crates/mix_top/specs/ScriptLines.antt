-- The first line of a script, and what stands behind it.
use Rattle.std.specs.Prelude.{ℕ, suc, ◌==◌, List, [], ◌∷◌, take, drop, if◌then◌else◌}

-- how many bytes the first line has; all, where there is no line feed
abbrev pub line_length : List ℕ → ℕ
line_length [] = 0
line_length (byte ∷ text) = if byte == 10 then 1 else suc (line_length text)

abbrev pub first_line : List ℕ → List ℕ
first_line text = take (line_length text) text

-- what stands behind it
abbrev pub behind_line : List ℕ → List ℕ
behind_line text = drop (line_length text) text
