-- Tests of a relocation header.
use Rattle.std.specs.Prelude.{ℕ, Bool, ◌==◌, List}
use Rattle.pef_head.specs.declared.loader.Loader.{Loader}
use Rattle.mix_bits.specs.Search.{any_below}
use Rattle.pef_head.specs.Places.{relocated}

abbrev pub is_for : List ℕ → Loader → ℕ → ℕ → Bool
is_for bytes l k h = relocated bytes l h == k

-- an earlier header is for the same section
abbrev pub is_repeated : List ℕ → Loader → ℕ → Bool
is_repeated bytes l h = any_below (is_for bytes l (relocated bytes l h)) h
