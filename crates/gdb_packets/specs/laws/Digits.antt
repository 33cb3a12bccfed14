-- Hexadecimal digits are read as what they were written for.
use Rattle.std.specs.Prelude.{◌≡◌, ℕ, ◌/◌, ◌%◌, ◌^◌, ◌<◌, List, Some}
use Rattle.std.specs.List.{AllByRecursion, flat_map}
use Rattle.gdb_packets.specs.Hex.{byte_said, bytes_said, pair_of, digit_of, digits, number_said, number_text, value_of}

abbrev pub ReadsDigits : Type 0
ReadsDigits = (n : ℕ) → n < 16 → value_of (digit_of n) ≡ Some n

abbrev pub ReadsBytes : Type 0
ReadsBytes = (b : ℕ) → b < 256 → byte_said (digit_of (b / 16)) (digit_of (b % 16)) ≡ Some b

abbrev pub ReadsRegisters : Type 0
ReadsRegisters = (n : ℕ) → n < 2 ^ 32 → number_said (digits 8 n) ≡ Some n

abbrev pub ReadsNumbers : Type 0
ReadsNumbers = (n : ℕ) → n < 2 ^ 32 → number_said (number_text n) ≡ Some n

abbrev pub ReadsMemory : Type 0
ReadsMemory = (bytes : List ℕ) → AllByRecursion (λ b. b < 256) bytes → bytes_said (flat_map pair_of bytes) ≡ Some bytes
