-- Addresses of 32 bits, whose sums and differences wrap.
use Rattle.std.specs.Prelude.{ℕ, ◌+◌, ◌-◌, ◌*◌, ◌/◌, ◌%◌, ◌^◌}

-- the address n bytes after another one
abbrev pub onward : ℕ → ℕ → ℕ
onward a n = (a + n) % 2 ^ 32

-- the address n bytes before another one
abbrev pub backward : ℕ → ℕ → ℕ
backward a n = (a + (2 ^ 32 - n)) % 2 ^ 32

-- an address without its two low bits
abbrev pub aligned : ℕ → ℕ
aligned a = a / 4 * 4
