-- A line's name, which stands before its first space, and what follows on it.
use Rattle.std.specs.Prelude.{ℕ, suc, ◌==◌, List, [], ◌∷◌, take, if◌then◌else◌}

-- the bytes before the first space, or all
abbrev pub name_length : List ℕ → ℕ
name_length [] = 0
name_length (b ∷ bs) = if b == 32 then 0 else suc (name_length bs)

abbrev pub name_of : List ℕ → List ℕ
name_of line = take (name_length line) line
