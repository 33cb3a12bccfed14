-- A fetch that is plain: the words of an instruction lie in memory.
use Rattle.std.specs.Prelude.{ℕ, ◌≡◌, ◌≤◌, ◌+◌, ◌%◌, length}
use Rattle.big_memory.specs.Map.{gate_page_end}
use Rattle.big_memory.specs.Memory.{Memory}

-- an instruction at this address plainly can be fetched: it is even, from the end of the gate page on, and five words
-- lie in memory there
abbrev pub IsPlain : ℕ → Memory → Type 0
IsPlain pc m = (pc % 2 ≡ 0) × (gate_page_end ≤ pc) × (pc + 10 ≤ length m.bytes)
