-- Memory as a list of bytes with a mark for each unit of 16 bytes, and what a call on it answers.
use Rattle.std.specs.Prelude.{◌≡◌, ℕ, ◌+◌, ◌-◌, ◌*◌, ◌/◌, ◌%◌, ◌<◌, ◌≤◌, ◌==◌, nat_lt, nat_le, Bool, false, ◌&&◌, ◌||◌, if◌then◌else◌, List, length, replicate, slice_range, slice_index_or, Option, Some, None, Result, Ok, Err}
use Rattle.std.specs.List.{list_any}
use Rattle.byteorder.specs.Endian.{big_bytes}
use Rattle.mix_bits.specs.declared.size.Size.{Size}
use Rattle.mix_bits.specs.Sizes.{bytes_of}
use Rattle.big_memory.specs.declared.refusals.Access.{Access}
use Rattle.big_memory.specs.declared.refusals.Access.TheVariants.{Outside, Gate, Frame}
use Rattle.big_memory.specs.Lists.{part, put, zeros}
use Rattle.big_memory.specs.Numbers.{number_at}
use Rattle.big_memory.specs.Map.{gate_page, gate_page_end}

-- the bytes from address 0 on, and for each unit of 16 bytes whether it is guarded
pub record Memory : Type 0 where
  pub bytes : List ℕ
  pub marks : List Bool

-- the lowest address of the stack: a quarter of memory lies above it
abbrev pub floor_of : Memory → ℕ
floor_of m = length m.bytes - length m.bytes / 4

-- what every memory of the machine meets: whole KiB, 128 to 16384 of them, and a guard of the stack alone
pub record IsRam (m : Memory) : Type 0 where
  pub units : length m.bytes ≡ 16 * length m.marks
  pub least : 131072 ≤ length m.bytes
  pub most : length m.bytes ≤ 16777216
  pub whole : length m.bytes % 1024 ≡ 0
  pub clear : (unit : ℕ) → 16 * unit < floor_of m → slice_index_or m.marks unit false ≡ false

-- memory of so many zeros, with nothing guarded
abbrev pub zeroed : ℕ → Memory
zeroed len = record { bytes = zeros len; marks = replicate (len / 16) false }

-- the memory with the bytes from an address on, or the marks from a unit on, replaced
abbrev pub with_bytes : ℕ → List ℕ → Memory → Memory
with_bytes at ys m = record m { bytes = put at ys m.bytes }

-- whether the n bytes at a lie in memory; no bytes lie in it everywhere
abbrev pub in_memory : Memory → ℕ → ℕ → Bool
in_memory m a n = n == 0 || nat_le (a + n) (length m.bytes)

-- whether one of the n bytes at a lies in the gate page
abbrev pub meets_gate : ℕ → ℕ → Bool
meets_gate a n = nat_lt a gate_page_end && nat_lt gate_page (a + n)

-- whether one of the n bytes at a, at least one, lies in a guarded unit
abbrev pub meets_guard : Memory → ℕ → ℕ → Bool
meets_guard m a n = list_any (λ mark. mark) (slice_range m.marks (a / 16) ((a + n - 1) / 16 + 1))

-- why a store of n bytes at a is refused, if it is
abbrev pub refusal : Memory → ℕ → ℕ → Option Access
refusal m a n =
    if n == 0 then None else (if nat_lt (length m.bytes) (a + n) then Some (Outside a) else (if meets_gate a n then Some (Gate a) else (if meets_guard m a n then Some (Frame a) else None)))

-- why a copy of n bytes is refused, if it is: the source is only read
abbrev pub copy_refusal : Memory → ℕ → ℕ → ℕ → Option Access
copy_refusal m from to n = if in_memory m from n then refusal m to n else Some (Outside from)

-- what a load gives: the bytes as digits to the base 256, the first one the most significant
abbrev pub loaded : Memory → ℕ → Size → Result ℕ Access
loaded m a s = if in_memory m a (bytes_of s) then Ok (number_at a (bytes_of s) m.bytes) else Err (Outside a)

-- the memory after a store, after a fill with zeros, and after a copy
abbrev pub stored : Memory → ℕ → Size → ℕ → Memory
stored m a s v = with_bytes a (big_bytes (bytes_of s) v) m

abbrev pub filled : Memory → ℕ → ℕ → Memory
filled m a n = with_bytes a (zeros n) m

abbrev pub copied : Memory → ℕ → ℕ → ℕ → Memory
copied m from to n = with_bytes to (part from n m.bytes) m
