-- Numbers read from texts.
use Rattle.std.specs.Prelude.{ℕ, ◌&&◌, ◌||◌, ◌==◌, ◌^◌, nat_lt, nat_le, Bool, List, length, decimal, Option, Some, None, if◌then◌else◌}
use Rattle.std.specs.List.{list_all}
use Rattle.std.specs.Str.{bytes_eq}
use Rattle.std.specs.Str.Parse.{digits_value}

-- a number below 2 ^ 32, where a text is its decimal digits
abbrev pub spelled_by : List ℕ → ℕ → Option ℕ
spelled_by text n = if bytes_eq (decimal n) text && nat_lt n (2 ^ 32) then Some n else None

-- the number below 2 ^ 32 whose decimal digits a text is
unfoldable pub decimal_number : List ℕ → Option ℕ
decimal_number text = spelled_by text (digits_value 10 text)

-- the digits from 0 to 9 and from A to F
abbrev pub is_hex_digit : ℕ → Bool
is_hex_digit byte = (nat_le 48 byte && nat_le byte 57) || (nat_le 65 byte && nat_le byte 70)

abbrev pub are_hex_digits : ℕ → List ℕ → Bool
are_hex_digits count text = (length text == count) && list_all is_hex_digit text

-- the number whose so many upper-case hexadecimal digits a text is
unfoldable pub hexadecimal_number : ℕ → List ℕ → Option ℕ
hexadecimal_number count text = if are_hex_digits count text then Some (digits_value 16 text) else None
