-- A text is read as a number exactly where it is what is written of the number.
use Rattle.std.specs.Prelude.{ℕ, ◌≡◌, ◌↔◌, ◌^◌, ◌<◌, List, decimal, Some}
use Rattle.mix_bits.specs.Text.{hexadecimal}
use Rattle.mix_bits.specs.Numbers.{decimal_number, hexadecimal_number}

-- a text is read as a number exactly where it is what is written of the number
abbrev pub ReadsDecimals : Type 0
ReadsDecimals = (text : List ℕ) (n : ℕ) → (decimal_number text ≡ Some n) ↔ ((n < 2 ^ 32) × (decimal n ≡ text))

abbrev pub ReadsHexadecimals : Type 0
ReadsHexadecimals = (count : ℕ) (text : List ℕ) (n : ℕ) → (hexadecimal_number count text ≡ Some n) ↔ ((n < 16 ^ count) × (hexadecimal count n ≡ text))
