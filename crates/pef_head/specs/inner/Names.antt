-- Up to where names have their end.
use Rattle.std.specs.Prelude.{◌≡◌, ℕ, List, nat_lt, Bool, ◌==◌}
use Rattle.pef_head.specs.declared.loader.Loader.{Loader}
use Rattle.pef_head.specs.Places.{has_end}

-- names that begin before this place have an end, and no others
abbrev pub IsNamesEnd : List ℕ → Loader → ℕ → Type 0
IsNamesEnd bytes l end = (from : ℕ) → has_end bytes l from ≡ nat_lt from end

abbrev pub is_zero : ℕ → Bool
is_zero byte = byte == 0
