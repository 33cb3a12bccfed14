-- The bytes of a piece as the program holds it.
use Rattle.std.specs.Prelude.{◌≡◌, ℕ, suc, ◌*◌, ◌^◌, ◌<◌, ◌≤◌, List, ◌++◌, length, replicate}
use Rattle.mix_bits.specs.declared.file.TheConstants.{MOST_BYTES}
use Rattle.pef_reloc.specs.declared.piece.Parts.{Parts}
use Rattle.pef_reloc.specs.declared.piece.Piece.{Piece}
use Rattle.pef_reloc.specs.declared.piece.Piece.TheVariants.{Zeros, Block, Again, Mixed, MixedZeros}
use Rattle.pef_reloc.specs.Lists.{times}
use Rattle.pef_reloc.specs.Pattern.{followed}

abbrev pub mixed : List ℕ → Parts → List ℕ
mixed common parts = common ++ followed common parts.size parts.count parts.bytes.now

abbrev pub bytes_of : Piece → List ℕ
bytes_of (Zeros n) = replicate n 0
bytes_of (Block block) = block.now
bytes_of (Again block further) = times (suc further) block.now
bytes_of (Mixed common parts) = mixed common.now parts
bytes_of (MixedZeros n parts) = mixed (replicate n 0) parts

-- the parts fill their bytes, of which there are few
pub record AreWhole (parts : Parts) : Type 0 where
  pub whole : length parts.bytes.now ≡ parts.count * parts.size
  pub few : length parts.bytes.now ≤ MOST_BYTES

-- what stands in pattern data of at most 16 MiB
abbrev pub IsSmall : Piece → Type 0
IsSmall (Zeros n) = n < 2 ^ 32
IsSmall (Block block) = length block.now ≤ MOST_BYTES
IsSmall (Again block further) = length block.now ≤ MOST_BYTES
IsSmall (Mixed common parts) = (length common.now ≤ MOST_BYTES) × AreWhole parts
IsSmall (MixedZeros n parts) = (n < 2 ^ 32) × AreWhole parts
