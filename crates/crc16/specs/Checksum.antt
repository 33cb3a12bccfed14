-- The check sum of MacBinary and BinHex: the remainder of the number that bytes spell, with two zeros behind them, by
-- x^16 + x^12 + x^5 + 1, each bit a coefficient modulo 2 (RFC 1741, of BinHex 4.0; the MacBinary II standard).
use Rattle.std.specs.Prelude.{ℕ, ◌-◌, ◌*◌, ◌++◌, List, [], ◌∷◌, nat_lt, bit_xor, if◌then◌else◌}
use Rattle.std.specs.List.{fold}

-- one bit more, a zero: twice the number, less the polynomial where it has a bit 16
unfoldable pub shifted : ℕ → ℕ
shifted sum = if nat_lt sum 0x8000 then sum * 2 else bit_xor ((sum - 0x8000) * 2) 0x1021

abbrev pub shifted_twice : ℕ → ℕ
shifted_twice sum = shifted (shifted sum)

-- one byte more
abbrev pub with_byte : ℕ → ℕ → ℕ
with_byte sum byte = bit_xor (shifted_twice (shifted_twice (shifted_twice (shifted_twice sum)))) byte

-- the remainder of the number that has these bytes
abbrev pub remainder : List ℕ → ℕ
remainder bytes = fold with_byte 0 bytes

-- two zeros stand where the check sum is to stand
abbrev pub checksum_of : List ℕ → ℕ
checksum_of bytes = remainder (bytes ++ 0 ∷ 0 ∷ [])
