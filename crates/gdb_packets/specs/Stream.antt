-- What a stream of bytes says in gdb's Remote Serial Protocol: `$`, data, `#` and two digits of its sum; `+`, `-`, and byte 3.
-- Source: GDB manual, appendix 'GDB Remote Serial Protocol', sections 'Overview', 'Packets' and 'Interrupts'.
use Rattle.std.specs.Prelude.{ℕ, ◌%◌, ◌==◌, nat_lt, Bool, true, false, List, [], ◌∷◌, ◌++◌, length, sum, bit_xor, Option, Some, None, if◌then◌else◌}
use Rattle.gdb_packets.specs.Hex.{byte_said}
use Rattle.gdb_packets.specs.declared.event.Event.{Event}
use Rattle.gdb_packets.specs.declared.event.Event.TheVariants.{Packet, Acknowledged, Refused, Interrupt, BadSum, TooLong}

-- how many bytes of data a packet may have
abbrev pub packet_room : ℕ
packet_room = 0x4000

-- data whose `}` and the byte behind it stand for that byte with bit 5 turned over; a `}` at the end stands for nothing
abbrev pub unescaped_from : Bool → List ℕ → List ℕ
unescaped_from escaped [] = []
unescaped_from true (b ∷ bs) = bit_xor b 32 ∷ unescaped_from false bs
unescaped_from false (b ∷ bs) = if b == 125 then unescaped_from true bs else b ∷ unescaped_from false bs

abbrev pub unescaped : List ℕ → List ℕ
unescaped raw = unescaped_from false raw

abbrev pub says : Option ℕ → ℕ → Bool
says None n = false
says (Some m) n = m == n

-- what is told by a packet's data, with the data if it is not too long
abbrev pub whole : List ℕ → Event × List ℕ
whole bytes = if nat_lt packet_room (length bytes) then (TooLong, []) else (Packet, bytes)

-- what is told by a packet of these bytes between `$` and `#`, and these two digits
abbrev pub closing : List ℕ → ℕ → ℕ → Event × List ℕ
closing raw high low = if says (byte_said high low) (sum raw % 256) then whole (unescaped raw) else (BadSum, [])

-- what a byte outside of packets says
abbrev pub signal : ℕ → Option Event
signal b = if b == 43 then Some Acknowledged else (if b == 45 then Some Refused else (if b == 3 then Some Interrupt else None))

abbrev pub signalled : Option Event → List (Event × List ℕ)
signalled None = []
signalled (Some e) = (e, []) ∷ []

-- between packets; in one, behind these bytes of it; behind all of them and `#`; and behind the first digit of the sum
pub data Place : Type 0 where
  Between : Place
  Within : (raw : List ℕ) → Place
  Ended : (raw : List ℕ) → Place
  HalfSum : (raw : List ℕ) (high : ℕ) → Place

abbrev pub place_after : Place → ℕ → Place
place_after Between b = if b == 36 then Within [] else Between
place_after (Within raw) b = if b == 36 then Within [] else (if b == 35 then Ended raw else Within (raw ++ b ∷ []))
place_after (Ended raw) b = HalfSum raw b
place_after (HalfSum raw high) b = Between

abbrev pub told_at : Place → ℕ → List (Event × List ℕ)
told_at Between b = signalled (signal b)
told_at (Within raw) b = []
told_at (Ended raw) b = []
told_at (HalfSum raw high) b = closing raw high b ∷ []

-- all that a stream says from a place on, each packet with its data, and the place behind the stream
abbrev pub told : Place → List ℕ → List (Event × List ℕ)
told p [] = []
told p (b ∷ bs) = told_at p b ++ told (place_after p b) bs

abbrev pub behind : Place → List ℕ → Place
behind p [] = p
behind p (b ∷ bs) = behind (place_after p b) bs

-- a byte of data as a packet has it
abbrev pub escaped_byte : ℕ → List ℕ
escaped_byte b = if b == 125 then 125 ∷ 93 ∷ [] else (if b == 35 then 125 ∷ 3 ∷ [] else (if b == 36 then 125 ∷ 4 ∷ [] else (if b == 42 then 125 ∷ 10 ∷ [] else b ∷ [])))
