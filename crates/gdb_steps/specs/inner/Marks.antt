-- Marks of the addresses to stop at.
use Rattle.std.specs.Prelude.{◌≡◌, ℕ, ◌/◌, ◌%◌, Bool, true, false, List, slice_index_or}

-- the mark of an address is set
abbrev pub IsMarked : List Bool → ℕ → Type 0
IsMarked marks a = slice_index_or marks (a / 2 % 1024) false ≡ true
