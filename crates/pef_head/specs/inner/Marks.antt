-- Marks on numbers, as the bits of words of 64 bits.
use Rattle.std.specs.Prelude.{ℕ, ◌/◌, ◌%◌, Bool, ◌==◌, slice_index}
use Rattle.std.specs.Int.{bit_at}
use Rattle.pef_head.specs.declared.marks.Marks.{Marks}

unfoldable pub is_marked : Marks → ℕ → Bool
is_marked marks k = bit_at (slice_index marks.words (k / 64)) (k % 64) == 1
