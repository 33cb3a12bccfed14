-- What follows from the definition of a stream: pieces, packets of any bytes, packets read back, and what a decoder tells.
use Rattle.std.specs.Prelude.{◌≡◌, ℕ, ◌≤◌, ◌==◌, false, List, ◌∷◌, ◌++◌, length}
use Rattle.std.specs.List.{AllByRecursion}
use Rattle.gdb_packets.specs.Stream.{Place, Between, behind, closing, packet_room, told}
use Rattle.gdb_packets.specs.Packets.{packet_text}
use Rattle.gdb_packets.specs.Reading.{fresh, told_by}
use Rattle.gdb_packets.specs.declared.event.Event.TheVariants.{Packet}

-- a stream in two pieces says what it says in one; so it does in any pieces
abbrev pub PiecesJoin : Type 0
PiecesJoin = (p : Place) (xs ys : List ℕ) → told p (xs ++ ys) ≡ told p xs ++ told (behind p xs) ys

-- a byte that neither begins nor ends a packet
abbrev pub IsPlain : ℕ → Type 0
IsPlain b = ((b == 36) ≡ false) × ((b == 35) ≡ false)

-- each packet is judged by its sum first and by its length then, and nothing of it is left for what follows
abbrev pub PacketsTell : Type 0
PacketsTell = (raw : List ℕ) (high low : ℕ) (rest : List ℕ) → AllByRecursion IsPlain raw
    → told Between (36 ∷ raw ++ 35 ∷ high ∷ low ∷ rest) ≡ closing raw high low ∷ told Between rest

-- what is put as a packet is read again, whatever follows
abbrev pub ReadsBack : Type 0
ReadsBack = (bytes rest : List ℕ) → length bytes ≤ packet_room
    → told Between (packet_text bytes ++ rest) ≡ (Packet, bytes) ∷ told Between rest

-- a decoder tells of any bytes exactly what they say
abbrev pub DecoderTells : Type 0
DecoderTells = (bytes : List ℕ) → told_by fresh bytes ≡ told Between bytes
