-- How many bytes a line may have.
use Rattle.std.specs.Prelude.{ℕ}

-- a line has at most so many bytes
abbrev pub most_bytes : ℕ
most_bytes = 160
