-- The line of a text with a number.
use Rattle.std.specs.Prelude.{ℕ, ◌-◌, ◌==◌, nat_eq, List, [], ◌∷◌, length, take, if◌then◌else◌}
use Rattle.std.specs.List.{ends_with}
use Rattle.mix_top.specs.Scripts.{lines_of}

-- the line behind so many others; nothing where there is none
abbrev pub line_behind : List (List ℕ) → ℕ → List ℕ
line_behind [] count = []
line_behind (line ∷ lines) count = if count == 0 then line else line_behind lines (count - 1)

-- the line with a number, counted from 1, and its line feed
abbrev pub nth_line : ℕ → List ℕ → List ℕ
nth_line number text = line_behind (lines_of text) (number - 1)

-- a line without its line feed
abbrev pub without_feed : List ℕ → List ℕ
without_feed line = if ends_with nat_eq line (10 ∷ []) then take (length line - 1) line else line
