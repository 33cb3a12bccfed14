-- The fetch of the instruction at pc (M68000 Family Programmer's Reference Manual, section 2.1).
use Rattle.std.specs.Prelude.{ℕ, ◌+◌, ◌-◌, ◌/◌, length}
use Rattle.big_memory.specs.Map.{gate_page_end}
use Rattle.big_memory.specs.Memory.{Memory}

-- at how many even addresses, from the end of the gate page on, five words lie in memory
abbrev pub places_of : Memory → ℕ
places_of m = (length m.bytes - (gate_page_end + 8)) / 2
