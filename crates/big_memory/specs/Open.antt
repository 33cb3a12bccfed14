-- A range that is plainly open: in one unit above the gate page that is not guarded.
use Rattle.std.specs.Prelude.{ℕ, ◌+◌, ◌/◌, ◌%◌, nat_lt, nat_le, Bool, false, not, ◌&&◌, slice_index_or}
use Rattle.big_memory.specs.Map.{gate_page_end}
use Rattle.big_memory.specs.Memory.{Memory, in_memory}

-- whether the n bytes at a, at least one, lie in memory above the gate page, in one unit, which is not guarded
abbrev pub is_open : Memory → ℕ → ℕ → Bool
is_open m a n =
    nat_lt 0 n && (nat_le gate_page_end a && (in_memory m a n && (nat_le (a % 16 + n) 16 && not (slice_index_or m.marks (a / 16) false))))
