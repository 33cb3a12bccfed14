-- The parts of a first word have no more than their bits.
use Rattle.std.specs.Prelude.{◌<◌}
use Rattle.m68_isa.specs.First.{First}

-- each part has no more than its bits
abbrev pub IsFirst : First → Type 0
IsFirst f = (f.line < 16) × (f.upper < 8) × (f.bit8 < 2) × (f.size < 4) × (f.mode < 8) × (f.lower < 8)
