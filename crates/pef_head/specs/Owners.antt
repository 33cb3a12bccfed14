-- Which libraries have a symbol, and what a search of a range of symbols keeps.
use Rattle.std.specs.Prelude.{ℕ, Bool, ◌==◌, not, List}
use Rattle.pef_head.specs.declared.loader.Loader.{Loader}
use Rattle.pef_head.specs.Places.{holds}
use Rattle.mix_bits.specs.Search.{count_below}

-- how many of the first n libraries have the symbol
abbrev pub owners : List ℕ → Loader → ℕ → ℕ → ℕ
owners bytes l n i = count_below (holds bytes l i) n

-- it is in no library, or in two
abbrev pub is_lost : List ℕ → Loader → ℕ → Bool
is_lost bytes l i = not (owners bytes l l.libraries i == 1)
