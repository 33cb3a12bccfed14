-- Bytes and numbers as hexadecimal digits, as the GDB manual, appendix 'GDB Remote Serial Protocol', writes them.
use Rattle.std.specs.Prelude.{ℕ, zero, suc, ◌+◌, ◌-◌, ◌*◌, ◌/◌, ◌%◌, ◌^◌, ◌&&◌, ◌==◌, nat_lt, nat_le, List, [], ◌∷◌, ◌++◌, Option, Some, None, if◌then◌else◌}

-- the digit of a number below 16, in lower case
abbrev pub digit_of : ℕ → ℕ
digit_of n = if nat_lt n 10 then n + 48 else n + 87

-- what a digit stands for, in either case
abbrev pub value_of : ℕ → Option ℕ
value_of d =
    if nat_le 48 d && nat_le d 57 then Some (d - 48)
    else (if nat_le 97 d && nat_le d 102 then Some (d - 97 + 10)
    else (if nat_le 65 d && nat_le d 70 then Some (d - 65 + 10) else None))

-- a byte's two digits
abbrev pub pair_of : ℕ → List ℕ
pair_of b = digit_of (b / 16) ∷ digit_of (b % 16) ∷ []

abbrev pub joined : Option ℕ → Option ℕ → Option ℕ
joined (Some high) (Some low) = Some (16 * high + low)
joined (Some high) None = None
joined None low = None

-- the byte whose two digits these are
abbrev pub byte_said : ℕ → ℕ → Option ℕ
byte_said high low = joined (value_of high) (value_of low)

abbrev pub one_before : Option ℕ → Option (List ℕ) → Option (List ℕ)
one_before (Some b) (Some bs) = Some (b ∷ bs)
one_before (Some b) None = None
one_before None bs = None

-- the bytes whose digits these are
abbrev pub bytes_said : List ℕ → Option (List ℕ)
bytes_said [] = Some []
bytes_said (high ∷ []) = None
bytes_said (high ∷ low ∷ rest) = one_before (byte_said high low) (bytes_said rest)

abbrev pub all_behind : List ℕ → Option (List ℕ) → Option (List ℕ)
all_behind front None = None
all_behind front (Some bs) = Some (front ++ bs)

-- and these behind others
abbrev pub said_behind : List ℕ → List ℕ → Option (List ℕ)
said_behind front digits = all_behind front (bytes_said digits)

-- a number with one more digit behind it, if it stays below 2 ^ 32
abbrev pub one_more : ℕ → Option ℕ → Option ℕ
one_more n None = None
one_more n (Some v) = if nat_lt n (2 ^ 28) then Some (16 * n + v) else None

-- a number with all these digits behind it
abbrev pub number_from : Option ℕ → List ℕ → Option ℕ
number_from None text = None
number_from (Some n) [] = Some n
number_from (Some n) (d ∷ ds) = number_from (one_more n (value_of d)) ds

-- the number below 2 ^ 32 whose digits a text is
abbrev pub number_said : List ℕ → Option ℕ
number_said [] = None
number_said (d ∷ ds) = number_from (Some 0) (d ∷ ds)

-- the lowest k digits of a number
abbrev pub digits : ℕ → ℕ → List ℕ
digits zero n = []
digits (suc k) n = digit_of (n / 16 ^ k % 16) ∷ digits k n

-- without leading zeros, but for the last digit
abbrev pub shortened : List ℕ → List ℕ
shortened [] = 48 ∷ []
shortened (d ∷ ds) = if d == 48 then shortened ds else d ∷ ds

-- the digits of a number below 2 ^ 32 without leading zeros
unfoldable pub number_text : ℕ → List ℕ
number_text n = shortened (digits 8 n)
