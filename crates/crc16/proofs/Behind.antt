-- Two zeros behind bytes are two bytes more.
use Rattle.std.proofs.Common.{◌≡◌, ℕ, List, [], ◌∷◌, ◌++◌}
use Rattle.std.proofs.lemmas.List.Sums.{fold-append}
use Rattle.crc16.specs.Checksum.{remainder, with_byte}

pub two_behind : (bytes : List ℕ) → remainder (bytes ++ 0 ∷ 0 ∷ []) ≡ with_byte (with_byte (remainder bytes) 0) 0
two_behind bytes = fold-append with_byte 0 bytes (0 ∷ 0 ∷ [])
