-- What gdb reads out of answers: a register's digits are the register, `p` tells what stands in `g`, and the windows of a description, one behind the other, are the description.
use Rattle.std.specs.Prelude.{◌≡◌, ℕ, zero, suc, ◌+◌, ◌*◌, ◌^◌, ◌<◌, ◌==◌, List, [], ◌∷◌, ◌++◌, length, slice_index, Some, if◌then◌else◌}
use Rattle.std.specs.List.{flat_map}
use Rattle.big_memory.specs.Lists.{part}
use Rattle.gdb_packets.specs.Hex.{number_said}
use Rattle.gdb_answers.specs.Answers.{window_text}
use Rattle.gdb_answers.specs.Registers.{long_text}

abbrev pub RegistersReadBack : Type 0
RegistersReadBack = (n : ℕ) → n < 2 ^ 32 → number_said (long_text n) ≡ Some n

-- the digits of the k-th of some registers
abbrev pub RegistersStandInOrder : Type 0
RegistersStandInOrder = (longs : List ℕ) (k : ℕ) → k < length longs → part (8 * k) 8 (flat_map long_text longs) ≡ long_text (slice_index longs k)

-- what follows a window: the next one if it begins with `m`
abbrev pub read_on : List ℕ → List ℕ → List ℕ
read_on [] more = []
read_on (letter ∷ piece) more = if letter == 109 then piece ++ more else piece

-- what gdb reads by at most k windows of `count` bytes
abbrev pub read_whole : ℕ → List ℕ → ℕ → ℕ → List ℕ
read_whole zero text count offset = []
read_whole (suc k) text count offset = read_on (window_text text offset count) (read_whole k text count (offset + count))

abbrev pub WindowsAreWhole : Type 0
WindowsAreWhole = (text : List ℕ) (count k : ℕ) → 0 < count → length text < k → read_whole k text count 0 ≡ text
