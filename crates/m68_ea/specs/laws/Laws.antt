-- What follows of the words of an instruction from where it lies
-- (M68000 Family Programmer's Reference Manual, section 2.1).
use Rattle.std.specs.Prelude.{◌≡◌, ℕ, ◌+◌, ◌≤◌, length, drop, slice_index}
use Rattle.byteorder.specs.Endian.{big_number}
use Rattle.big_memory.specs.Memory.{Memory}
use Rattle.m68_ea.specs.Words.{words_at}

-- where ten bytes lie in memory, an instruction has five words, and its first word is that of the first two bytes
pub record WordsLie : Type 0 where
  pub five : (pc : ℕ) (m : Memory) → length m.bytes ≤ 16777216 → pc + 10 ≤ length m.bytes → 5 ≤ length (words_at m pc)
  pub first : (pc : ℕ) (m : Memory) → length m.bytes ≤ 16777216 → pc + 10 ≤ length m.bytes → slice_index (words_at m pc) 0 ≡ big_number 2 (drop pc m.bytes)
