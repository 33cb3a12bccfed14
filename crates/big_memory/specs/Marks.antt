-- Marks as the bits of words: 32 units a word, the least significant bit first.
use Rattle.std.specs.Prelude.{ℕ, ◌==◌, List, [], ◌∷◌, map, Bool}
use Rattle.std.specs.List.{flat_map}
use Rattle.std.specs.Int.{bit_at}

-- the places of a word's marks
abbrev pub places_in : List ℕ
places_in = 0 ∷ 1 ∷ 2 ∷ 3 ∷ 4 ∷ 5 ∷ 6 ∷ 7 ∷ 8 ∷ 9 ∷ 10 ∷ 11 ∷ 12 ∷ 13 ∷ 14 ∷ 15 ∷ 16 ∷ 17 ∷ 18 ∷ 19 ∷ 20 ∷ 21 ∷ 22 ∷ 23 ∷ 24 ∷ 25 ∷ 26 ∷ 27 ∷ 28 ∷ 29 ∷ 30 ∷ 31 ∷ []

-- the marks in one word
abbrev pub marks_in : ℕ → List Bool
marks_in word = map (λ place. bit_at word place == 1) places_in

-- the marks in a list of words
abbrev pub marks_of : List ℕ → List Bool
marks_of guard = flat_map marks_in guard
