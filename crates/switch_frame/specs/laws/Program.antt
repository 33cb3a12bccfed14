-- The bytes of the gate page.
use Rattle.std.specs.Prelude.{ℕ, List}
use Rattle.big_memory.specs.Lists.{part}
use Rattle.switch_frame.specs.Pieces.{puts}
use Rattle.switch_frame.specs.Program.{gate_longs, blank}

-- the gate page's bytes
unfoldable pub page_bytes : ℕ → ℕ → ℕ → ℕ → List ℕ
page_bytes entry vector a5 len = part 0x1000 0x1000 (puts (gate_longs entry vector a5 len) (blank 0x2000))
