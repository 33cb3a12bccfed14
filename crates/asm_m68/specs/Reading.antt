-- An operand by its text. Each kind of text has its own length, or one byte tells it from those of the same length;
-- what stands in the other places is not looked at (the texts are this project's own).
use Rattle.std.specs.Prelude.{ℕ, ◌+◌, ◌*◌, ◌%◌, ◌==◌, nat_lt, List, length, slice_index, if◌then◌else◌}
use Rattle.m68_isa.specs.declared.ea.Index.{Index}
use Rattle.m68_text.specs.declared.operand.Operand.{Operand}
use Rattle.m68_text.specs.declared.operand.Operand.TheVariants.{Data, Pair, Address, Indirect, PostIncrement, PreDecrement, Displaced, Indexed, ShortAddress, LongAddress, PcDisplaced, PcIndexed, Byte, Word, Long, Number, ConditionCodes, StatusRegister, Target}

-- of `0` to `9` and of `A` to `F`
abbrev pub nibble : ℕ → ℕ
nibble c = if nat_lt c 64 then c % 16 else (c + 9) % 16

-- the number of 2, 4 or 8 digits from a place on
abbrev pub hex_2 : List ℕ → ℕ → ℕ
hex_2 t k = nibble (slice_index t k) * 16 + nibble (slice_index t (k + 1))

abbrev pub hex_4 : List ℕ → ℕ → ℕ
hex_4 t k = hex_2 t k * 256 + hex_2 t (k + 2)

abbrev pub hex_8 : List ℕ → ℕ → ℕ
hex_8 t k = hex_4 t k * 65536 + hex_4 t (k + 4)

abbrev pub register : List ℕ → ℕ → ℕ
register t k = slice_index t k % 8

abbrev pub digit : List ℕ → ℕ → ℕ
digit t k = slice_index t k % 16

-- an operand that is none
abbrev pub nothing : Operand
nothing = Number 0

-- `d0`, `a0`, `#1`, `sr`
abbrev pub read_2 : List ℕ → Operand
read_2 t =
    if slice_index t 0 == 100 then Data (register t 1)
    else if slice_index t 0 == 97 then Address (register t 1)
    else if slice_index t 0 == 35 then Number (digit t 1)
    else StatusRegister

-- `#15`, `ccr`
abbrev pub read_3 : List ℕ → Operand
read_3 t = if slice_index t 0 == 35 then Number (digit t 1 * 10 + digit t 2) else ConditionCodes

-- `#$48`, `(a0)`
abbrev pub read_4 : List ℕ → Operand
read_4 t = if slice_index t 0 == 35 then Byte (hex_2 t 2) else Indirect (register t 2)

-- `-(a0)`, `(a0)+`, `d1:d0`, `$0048`
abbrev pub read_5 : List ℕ → Operand
read_5 t =
    if slice_index t 0 == 45 then PreDecrement (register t 3)
    else if slice_index t 0 == 40 then PostIncrement (register t 2)
    else if slice_index t 0 == 100 then Pair (register t 1) (register t 4)
    else Word (hex_4 t 1)

-- `$0004(a0)`, `$0004(pc)`, `$00010000`
abbrev pub read_9 : List ℕ → Operand
read_9 t =
    if slice_index t 5 == 40 then (if slice_index t 6 == 97 then Displaced (register t 7) (hex_4 t 1) else PcDisplaced (hex_4 t 1))
    else Target (hex_8 t 1)

-- the index in `$04(a0,d1.w)`
abbrev pub index_in : List ℕ → ℕ → Index
index_in t scale = record { reg = register t 8; address = slice_index t 7 == 97; long = slice_index t 10 == 108; scale = scale; disp = hex_2 t 1 }

-- `$04(a0,d1.w)`, `$04(pc,d1.w)`, and the same with a scale
abbrev pub read_indexed : List ℕ → ℕ → Operand
read_indexed t scale = if slice_index t 4 == 97 then Indexed (register t 5) (index_in t scale) else PcIndexed (index_in t scale)

abbrev pub read : List ℕ → Operand
read t =
    if length t == 2 then read_2 t
    else if length t == 3 then read_3 t
    else if length t == 4 then read_4 t
    else if length t == 5 then read_5 t
    else if length t == 6 then Word (hex_4 t 2)
    else if length t == 7 then ShortAddress (hex_4 t 1)
    else if length t == 9 then read_9 t
    else if length t == 10 then Long (hex_8 t 2)
    else if length t == 11 then LongAddress (hex_8 t 1)
    else if length t == 12 then read_indexed t 1
    else if length t == 14 then read_indexed t (digit t 12)
    else nothing
