-- The fields of a file: big-endian numbers, each at the place of its first byte.
use Rattle.std.specs.Prelude.{ℕ, ◌+◌, List, slice_range}
use Rattle.byteorder.specs.Endian.{big_number}

abbrev pub word_at : List ℕ → ℕ → ℕ
word_at bytes place = big_number 2 (slice_range bytes place (place + 2))

abbrev pub three_at : List ℕ → ℕ → ℕ
three_at bytes place = big_number 3 (slice_range bytes place (place + 3))

abbrev pub long_at : List ℕ → ℕ → ℕ
long_at bytes place = big_number 4 (slice_range bytes place (place + 4))
