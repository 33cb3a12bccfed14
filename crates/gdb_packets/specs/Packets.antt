-- A packet as it is sent: `$`, the data with `}`, `#`, `$` and `*` escaped, `#`, and the sum in two digits.
-- Source: GDB manual, appendix 'GDB Remote Serial Protocol', section 'Overview'.
use Rattle.std.specs.Prelude.{ℕ, ◌%◌, List, ◌∷◌, ◌++◌, sum}
use Rattle.std.specs.List.{flat_map}
use Rattle.gdb_packets.specs.Hex.{pair_of}
use Rattle.gdb_packets.specs.Stream.{escaped_byte}

abbrev pub framed_text : List ℕ → List ℕ
framed_text raw = 36 ∷ raw ++ 35 ∷ pair_of (sum raw % 256)

unfoldable pub packet_text : List ℕ → List ℕ
packet_text bytes = framed_text (flat_map escaped_byte bytes)
