-- What a server sends at what a stream of gdb's says, and whom a failure blames.
-- Source: GDB manual, appendix 'GDB Remote Serial Protocol', sections 'Overview' and 'Packet Acknowledgment'.
use Rattle.std.specs.Prelude.{◌≡◌, ℕ, Bool, List, [], ◌∷◌, Option, Some, None, Result, Ok, Err, if◌then◌else◌}
use Rattle.mix_io.specs.Counts.{Rose}
use Rattle.gdb_packets.specs.declared.event.Event.{Event}
use Rattle.gdb_packets.specs.declared.event.Event.TheVariants.{Packet, Acknowledged, Refused, Interrupt, BadSum, TooLong}
use Rattle.gdb_session.specs.declared.broken.Broken.{Broken}
use Rattle.gdb_session.specs.declared.broken.Broken.TheVariants.{NoMemory, Input, Output}
use Rattle.gdb_session.specs.declared.outcome.Outcome.{Outcome}

-- `+` for a packet that was taken and `-` for one that was not, as long as packets are acknowledged
abbrev pub acknowledged : Bool → ℕ → List ℕ
acknowledged acknowledges sign = if acknowledges then sign ∷ [] else []

-- what is sent at what the stream says but for a packet: the last answer again where it was refused
abbrev pub sent_at : Event → Bool → List ℕ → List ℕ
sent_at BadSum acknowledges last = acknowledged acknowledges 45
sent_at TooLong acknowledges last = acknowledged acknowledges 45
sent_at Refused acknowledges last = last
sent_at Packet acknowledges last = []
sent_at Acknowledged acknowledges last = []
sent_at Interrupt acknowledges last = []

-- packets are replied to, and all else changes nothing
abbrev pub HearsPacket : Option Outcome → (Outcome → Type 0) → Type 0 → Type 0
HearsPacket None P Q = Q
HearsPacket (Some outcome) P Q = P outcome

abbrev pub Hears : Event → Option Outcome → (Outcome → Type 0) → Type 0 → Type 0
Hears Packet r P Q = HearsPacket r P ⊥
Hears Acknowledged r P Q = (r ≡ None) × Q
Hears Refused r P Q = (r ≡ None) × Q
Hears Interrupt r P Q = (r ≡ None) × Q
Hears BadSum r P Q = (r ≡ None) × Q
Hears TooLong r P Q = (r ≡ None) × Q

-- the output failed exactly where its count rose, and so the input
abbrev pub BlamesOutput : {V : Type 0} → ℕ → ℕ → Result V Broken → Type 0
BlamesOutput before now (Ok v) = now ≡ before
BlamesOutput before now (Err NoMemory) = now ≡ before
BlamesOutput before now (Err Input) = now ≡ before
BlamesOutput before now (Err Output) = Rose before now

-- the same of what has no input
abbrev pub BlamesOutputAlone : {V : Type 0} → ℕ → ℕ → Result V Broken → Type 0
BlamesOutputAlone before now (Ok v) = now ≡ before
BlamesOutputAlone before now (Err NoMemory) = now ≡ before
BlamesOutputAlone before now (Err Input) = ⊥
BlamesOutputAlone before now (Err Output) = Rose before now

abbrev pub BlamesInput : {V : Type 0} → ℕ → ℕ → Result V Broken → Type 0
BlamesInput before now (Ok v) = now ≡ before
BlamesInput before now (Err NoMemory) = now ≡ before
BlamesInput before now (Err Input) = Rose before now
BlamesInput before now (Err Output) = now ≡ before
