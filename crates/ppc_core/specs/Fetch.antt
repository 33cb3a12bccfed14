-- The fetch of the instruction at pc.
use Rattle.std.specs.Prelude.{ℕ, ◌-◌, ◌/◌, length}
use Rattle.big_memory.specs.Map.{gate_page_end}
use Rattle.big_memory.specs.Memory.{Memory}

-- how many instructions fit into memory from the end of the gate page on
abbrev pub places_of : Memory → ℕ
places_of m = (length m.bytes - gate_page_end) / 4
