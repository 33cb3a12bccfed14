-- What a decoder keeps of a stream: where it stands, and of a packet the sum and the data that it has room for; and what a byte makes of it.
use Rattle.std.specs.Prelude.{ℕ, ◌+◌, ◌%◌, ◌==◌, nat_lt, Bool, true, false, List, [], ◌∷◌, ◌++◌, length, bit_xor, Option, Some, None, if◌then◌else◌}
use Rattle.gdb_packets.specs.Hex.{byte_said}
use Rattle.gdb_packets.specs.Stream.{packet_room, says, signal}
use Rattle.gdb_packets.specs.declared.event.Event.{Event}
use Rattle.gdb_packets.specs.declared.event.Event.TheVariants.{Packet, BadSum, TooLong}
use Rattle.gdb_packets.specs.declared.stage.Stage.{Stage}
use Rattle.gdb_packets.specs.declared.stage.Stage.TheVariants.{Outside, Inside, Escaped, Sealed, Half}

pub record Reading : Type 0 where
  pub stage : Stage
  pub total : ℕ
  pub kept : List ℕ
  pub is_long : Bool

abbrev pub opened : Reading → Reading
opened r = record { stage = Inside; total = 0; kept = []; is_long = false }

abbrev pub at_stage : Stage → Reading → Reading
at_stage s r = record r { stage = s }

-- a byte of a packet counts for the sum
abbrev pub counting : ℕ → Reading → Reading
counting b r = record r { total = (r.total + b) % 256 }

-- one more byte of data is kept, if there is room
abbrev pub keeping : ℕ → Reading → Reading
keeping b r = if nat_lt (length r.kept) packet_room then record r { kept = r.kept ++ b ∷ [] } else record r { is_long = true }

abbrev pub plain_byte : Reading → ℕ → Reading
plain_byte r b = if b == 125 then at_stage Escaped (counting b r) else keeping b (counting b r)

abbrev pub escaped_by : Reading → ℕ → Reading
escaped_by r b = keeping (bit_xor b 32) (counting b (at_stage Inside r))

-- `$` and `#` mean the same wherever they stand in a packet
abbrev pub framed : Reading → ℕ → Reading → Reading
framed r b other = if b == 36 then opened r else (if b == 35 then at_stage Sealed r else other)

abbrev pub after_in : Stage → Reading → ℕ → Reading
after_in Outside r b = if b == 36 then opened r else r
after_in Inside r b = framed r b (plain_byte r b)
after_in Escaped r b = framed r b (escaped_by r b)
after_in Sealed r b = at_stage (Half b) r
after_in (Half high) r b = at_stage Outside r

-- what is kept behind one more byte
unfoldable pub after : Reading → ℕ → Reading
after r b = after_in r.stage r b

-- what is said of a packet once its two digits have come
abbrev pub verdict : Reading → ℕ → ℕ → Event
verdict r high low = if says (byte_said high low) r.total then (if r.is_long then TooLong else Packet) else BadSum

abbrev pub event_in : Stage → Reading → ℕ → Option Event
event_in Outside r b = signal b
event_in Inside r b = None
event_in Escaped r b = None
event_in Sealed r b = None
event_in (Half high) r b = Some (verdict r high b)

-- what a byte completes
unfoldable pub event_at : Reading → ℕ → Option Event
event_at r b = event_in r.stage r b

-- what a decoder tells by an event, with the data that it keeps
abbrev pub told_with : Event → List ℕ → Event × List ℕ
told_with Packet kept = (Packet, kept)
told_with e kept = (e, [])

abbrev pub telling : Option Event → List ℕ → List (Event × List ℕ)
telling None kept = []
telling (Some e) kept = told_with e kept ∷ []

-- what a decoder tells by these bytes
abbrev pub told_by : Reading → List ℕ → List (Event × List ℕ)
told_by r [] = []
told_by r (b ∷ bs) = telling (event_at r b) (after r b).kept ++ told_by (after r b) bs

-- a decoder at the start
abbrev pub fresh : Reading
fresh = record { stage = Outside; total = 0; kept = []; is_long = false }
