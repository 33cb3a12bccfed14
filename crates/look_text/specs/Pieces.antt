-- Lines of pieces.
use Rattle.std.specs.Prelude.{ℕ, nat_lt, List, [], ◌∷◌, ◌++◌, codes, decimal, if◌then◌else◌}
use Rattle.mix_bits.specs.Text.{hexadecimal}
use Rattle.look_text.specs.Places.{place_text, ppc_place}
use Rattle.look_text.specs.declared.line.Piece.{Piece}
use Rattle.look_text.specs.declared.line.Piece.TheVariants.{Text, Bytes, Number, Byte, Word, Long, Address, Place, PpcWord}

-- an address, where it has eight digits
unfoldable pub address_text : ℕ → List ℕ
address_text a = if nat_lt a 0x1_0000_0000 then hexadecimal 8 a else codes "above FFFFFFFF"

abbrev pub piece_text : Piece → List ℕ
piece_text (Text t) = t.now
piece_text (Bytes b) = b.now
piece_text (Number v) = decimal v
piece_text (Byte v) = hexadecimal 2 v
piece_text (Word v) = hexadecimal 4 v
piece_text (Long v) = hexadecimal 8 v
piece_text (Address a) = address_text a
piece_text (Place p) = place_text p
piece_text (PpcWord i) = ppc_place i

-- texts, one behind the other
abbrev pub joined : List (List ℕ) → List ℕ
joined [] = []
joined (t ∷ ts) = t ++ joined ts
