-- Laws of texts and of listings: a text has one answer, and a listing gives the bytes that it lists
-- (the texts are this project's own).
use Rattle.std.specs.Prelude.{ℕ, zero, suc, ◌≡◌, ◌+◌, ◌^◌, ◌<◌, List, length, Option, Some, None, Result, Ok}
use Rattle.mix_bits.specs.Addresses.{onward}
use Rattle.mix_bits.specs.declared.isa.Isa.{Isa}
use Rattle.big_memory.specs.Lists.{part}
use Rattle.big_memory.specs.Memory.{IsRam, Memory}
use Rattle.big_memory.specs.Numbers.{AreBytes}
use Rattle.mix_text.specs.Listing.{Listed, instruction, listing}
use Rattle.mix_text.specs.Assembling.{IsAssembled}
use Rattle.mix_text.specs.declared.refused.Refused.{Refused}

-- a text gives one answer at most
abbrev pub AnswersOnce : Type 0
AnswersOnce = (set : Isa) (at : ℕ) (text : List ℕ) (a b : Result (List ℕ) Refused) → at < 2 ^ 32 → IsAssembled set at text a → IsAssembled set at text b → a ≡ b

-- how many bytes an instruction has, and those behind it
abbrev pub bytes_with : Option Listed → ℕ → (ℕ → ℕ) → ℕ
bytes_with (Some i) at rest = i.bytes + rest (onward at i.bytes)
bytes_with None at rest = 0

-- how many bytes the instructions of a listing of at most so many lines have
unfoldable pub listed_bytes : ℕ → Isa → Memory → ℕ → ℕ
listed_bytes zero set m at = 0
listed_bytes (suc count) set m at = bytes_with (instruction set m at) at (listed_bytes count set m)

-- each listing of a memory, assembled where it begins, gives the bytes of memory that it lists, all of them
pub record ComesBack (count : ℕ) (set : Isa) (m : Memory) (at : ℕ) : Type 0 where
  pub assembled : IsAssembled set at (listing count set m at) (Ok (part at (listed_bytes count set m at) m.bytes))
  pub whole : length (part at (listed_bytes count set m at) m.bytes) ≡ listed_bytes count set m at

abbrev pub ListingsComeBack : Type 0
ListingsComeBack = (count : ℕ) (set : Isa) (m : Memory) (at : ℕ) → IsRam m → AreBytes m.bytes → at < 2 ^ 32 → ComesBack count set m at
