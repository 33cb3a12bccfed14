-- What holds of a jump table that is not refused.
use Rattle.std.specs.Prelude.{ℕ, ◌+◌, ◌≤◌, ◌<◌, List, length}
use Rattle.mix_load.specs.Segments.{header_of}

-- the same as facts
pub record HasTable (code0 : List ℕ) : Type 0 where
  pub longs : 16 ≤ length code0
  pub some : 0 < (header_of code0).table_len
  pub within : 16 + (header_of code0).table_len ≤ length code0
  pub above : (header_of code0).table_offset + (header_of code0).table_len ≤ (header_of code0).above
