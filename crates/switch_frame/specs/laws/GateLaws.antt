-- Laws of the gate page.
use Rattle.std.specs.Prelude.{◌≡◌, ℕ, ◌^◌, ◌<◌, ◌≤◌, List, length}
use Rattle.big_memory.specs.Lists.{part}
use Rattle.big_memory.specs.Numbers.{AreBytes, long_at}
use Rattle.switch_frame.specs.Program.{HasGatePage, blank}
use Rattle.switch_frame.specs.laws.Program.{page_bytes}

-- memory in which the page's pieces were put has its longs
abbrev pub PageHasLongs : Type 0
PageHasLongs =
    (entry vector a5 : ℕ) (bytes : List ℕ) → a5 < 2 ^ 32 → length bytes < 2 ^ 32 → part 0x1000 0x1000 bytes ≡ page_bytes entry vector a5 (length bytes) → HasGatePage a5 bytes

-- and bytes that have its longs are those of the pieces, with the entry and the main vector that stand there
abbrev pub LongsArePage : Type 0
LongsArePage =
    (a5 : ℕ) (bytes : List ℕ) → AreBytes bytes → 0x2000 ≤ length bytes → a5 < 2 ^ 32 → length bytes < 2 ^ 32 → HasGatePage a5 bytes
    → part 0x1000 0x1000 bytes ≡ page_bytes (long_at 0x1020 bytes) (long_at 0x1024 bytes) a5 (length bytes)

-- memory that is as long, with the same bytes in the page, has the page too
abbrev pub PageByBytes : Type 0
PageByBytes =
    (a5 : ℕ) (old new : List ℕ) → part 0x1000 0x1000 new ≡ part 0x1000 0x1000 old → length new ≡ length old → HasGatePage a5 old → HasGatePage a5 new

-- how many bytes memory has in which nothing was put
abbrev pub LengthOfBlank : Type 0
LengthOfBlank = (n : ℕ) → length (blank n) ≡ n
