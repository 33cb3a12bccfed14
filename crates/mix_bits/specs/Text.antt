-- The text of a line.
use Rattle.std.specs.Prelude.{ℕ, zero, suc, ◌/◌, ◌%◌, ◌^◌, List, [], ◌∷◌, true}
use Rattle.std.specs.Fmt.{digit_glyph}

-- the lowest `k` hexadecimal digits of a number, the most significant one first
abbrev pub hexadecimal : ℕ → ℕ → List ℕ
hexadecimal zero v = []
hexadecimal (suc k) v = digit_glyph true (v / 16 ^ k % 16) ∷ hexadecimal k v
