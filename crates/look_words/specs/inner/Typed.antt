-- The place of a word as it was typed: mixedrun judges the words without those that are mixedlook's own.
use Rattle.std.specs.Prelude.{ℕ, ◌+◌, ◌-◌, ◌^◌, ◌==◌, List, [], ◌∷◌, if◌then◌else◌, min}
use Rattle.look_text.specs.declared.why.Why.{Why}
use Rattle.look_text.specs.declared.why.Why.TheVariants.{Keyless, Key as no_key, Value, Again}
use Rattle.look_words.specs.Looks.{is_own}

-- the next place; no command line has so many words that it would be the last one of 32 bits
abbrev pub next_place : ℕ → ℕ
next_place place = min (place + 1) (2 ^ 32 - 1)

-- the place among all words of one that has this place among those that are not mixedlook's own
abbrev pub typed_place : List (List ℕ) → ℕ → ℕ
typed_place [] place = place
typed_place (word ∷ words) place =
    if is_own word then next_place (typed_place words place)
    else (if place == 0 then 0 else next_place (typed_place words (place - 1)))

-- a command stands before them
abbrev pub typed_behind : List (List ℕ) → ℕ → ℕ
typed_behind [] place = place
typed_behind (command ∷ words) place = if place == 0 then 0 else next_place (typed_place words (place - 1))

abbrev pub typed_why : List (List ℕ) → Why → Why
typed_why words (Keyless place) = Keyless (typed_behind words place)
typed_why words (no_key place label) = no_key (typed_behind words place) label
typed_why words (Value place label) = Value (typed_behind words place) label
typed_why words (Again place label) = Again (typed_behind words place) label
typed_why words why = why
