-- The numbers of a line's operands: decimal digits, after a minus sign or not, and upper-case hexadecimal
-- digits after a `$`. A comma or an opening bracket ends a number; all other bytes are passed over.
use Rattle.std.specs.Prelude.{ℕ, ◌+◌, ◌-◌, ◌*◌, ◌%◌, ◌^◌, ◌==◌, ◌&&◌, nat_le, List, [], ◌∷◌, Bool, true, false, if◌then◌else◌}
use Rattle.asm_ppc.specs.declared.numbers.Numbers.{Numbers}
use Rattle.asm_ppc.specs.declared.numbers.Reading.{Reading}

abbrev pub none : Numbers
none = record { a = 0; b = 0; c = 0; d = 0; e = 0 }

-- the last five numbers with one more, which is the last one then
abbrev pub pushed : ℕ → Numbers → Numbers
pushed number f = record { a = number; b = f.a; c = f.b; d = f.c; e = f.d }

-- a negative number is its pattern of sixteen bits
abbrev pub number_of : Reading → ℕ
number_of s = if s.negative then 65536 - s.value % 65536 else s.value

abbrev pub start : Numbers → Reading
start f = record { hexadecimal = false; negative = false; value = 0; before = f }

abbrev pub finished : Reading → Numbers
finished s = pushed (number_of s) s.before

abbrev pub with_digit : ℕ → Reading → Reading
with_digit digit s = record s { value = (s.value * (if s.hexadecimal then 16 else 10) + digit) % 2 ^ 32 }

abbrev pub is_between : ℕ → ℕ → ℕ → Bool
is_between low high c = nat_le low c && nat_le c high

-- by the byte: `,` and `(`, `$`, `-`, `0` to `9`, `A` to `F`
abbrev pub step : Reading → ℕ → Reading
step s c =
    if c == 44 then start (finished s)
    else if c == 40 then start (finished s)
    else if c == 36 then record s { hexadecimal = true }
    else if c == 45 then record s { negative = true }
    else if is_between 48 57 c then with_digit (c - 48) s
    else if is_between 65 70 c then with_digit (c - 55) s
    else s

abbrev pub run : Reading → List ℕ → Reading
run s [] = s
run s (c ∷ cs) = run (step s c) cs

abbrev pub read : List ℕ → Numbers
read text = finished (run (start none) text)
