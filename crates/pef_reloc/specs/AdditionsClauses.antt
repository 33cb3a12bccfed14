-- A section with one addition.
use Rattle.std.specs.Prelude.{ℕ, ◌+◌, ◌%◌, ◌^◌, List}
use Rattle.byteorder.specs.Endian.{big_bytes}
use Rattle.big_memory.specs.Lists.{put}
use Rattle.big_memory.specs.Numbers.{long_at}

-- the section with a value added to the long at a position
abbrev pub with_long : ℕ → ℕ → List ℕ → List ℕ
with_long position value section =
    put position (big_bytes 4 ((long_at position section + value) % 2 ^ 32)) section
