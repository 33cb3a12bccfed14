-- What a server sends at a packet of gdb's, and what becomes of the machine.
-- Source: GDB manual, appendix 'GDB Remote Serial Protocol'.
use Rattle.std.specs.Prelude.{◌≡◌, ℕ, ◌==◌, Bool, false, List, [], ◌++◌, length, if◌then◌else◌}
use Rattle.mix_bits.specs.declared.isa.Isa.{Isa}
use Rattle.switch_frame.specs.Records.{isa_of}
use Rattle.gdb_packets.specs.Packets.{packet_text}
use Rattle.gdb_requests.specs.Requests.{request_of}
use Rattle.gdb_requests.specs.declared.request.Point.{Point}
use Rattle.gdb_answers.specs.Answers.{Scene, answer_text, console_text}
use Rattle.gdb_answers.specs.declared.answer.Answer.{Answer as Said}
use Rattle.gdb_answers.specs.declared.answer.Answer.TheVariants.{Done, Refused}
use Rattle.gdb_talk.specs.declared.deed.Deed.{Deed}
use Rattle.gdb_talk.specs.declared.deed.Deed.TheVariants.{Answer, Walk, Insert, Remove, Command, Leave, End}
use Rattle.gdb_talk.specs.declared.deed.Walk.{Walk as Way}
use Rattle.gdb_talk.specs.declared.talk.Talk.{Talk}
use Rattle.gdb_talk.specs.Deeds.{deed_of}
use Rattle.gdb_talk.specs.Talks.{after, elsewhere}
use Rattle.gdb_session.specs.Commands.{command_of}
use Rattle.gdb_session.specs.Stops.{halt_answer, halt_talk}
use Rattle.gdb_session.specs.declared.target.Halt.{Halt}
use Rattle.gdb_session.specs.declared.outcome.Outcome.{Outcome}
use Rattle.gdb_session.specs.declared.outcome.Outcome.TheVariants.{Answered, Walked, Placed, Obeyed, Ended}

-- what gdb sees of a target, and what gdb's requests, and the user's commands, do to it
pub record Rules (X : Type 0) : Type 1 where
  pub scene : X → Scene
  pub walks : X → Way → List ℕ → Halt → X → Type 0
  pub inserts : X → Point → ℕ → ℕ → Bool → X → Type 0
  pub removes : X → Point → ℕ → ℕ → X → Type 0
  pub obeys : X → List ℕ → List ℕ → Bool → X → Type 0

abbrev pub rules_of : {X : Type 0} → (X → Scene) → (X → Way → List ℕ → Halt → X → Type 0) → (X → Point → ℕ → ℕ → Bool → X → Type 0) → (X → Point → ℕ → ℕ → X → Type 0) → (X → List ℕ → List ℕ → Bool → X → Type 0) → Rules X
rules_of scene walks inserts removes obeys = record { scene = scene; walks = walks; inserts = inserts; removes = removes; obeys = obeys }

-- the packet of an answer
abbrev pub said : Scene → Said → List ℕ
said scene answer = packet_text (answer_text scene answer)

-- text for the console is one packet, or none without a byte
abbrev pub console_packet : List ℕ → List ℕ
console_packet bytes = if length bytes == 0 then [] else packet_text (console_text bytes)

-- a point that was set is `OK`; one for which there is no room is an error
abbrev pub placed : Bool → Said
placed set = if set then Done else Refused

abbrev pub active_in : Scene → Isa
active_in scene = isa_of scene.active

-- a walk: the machine went there, and gdb gets what came to the console, and then how it stopped
abbrev pub WalksTo : {X : Type 0} → (X → Scene) → (X → Way → List ℕ → Halt → X → Type 0) → Way → Halt → List ℕ → Talk → Talk → X → X → List ℕ → Type 0
WalksTo scene walks way halt console t u old new sent =
    walks old way console halt new
    × (sent ≡ console_packet console ++ said (scene new) (halt_answer (active_in (scene new)) t halt))
    × (u ≡ halt_talk (active_in (scene new)) t halt)

-- a command of the user's: gdb gets what came to the console. Where the machine went elsewhere by it, that is agreed; else
-- what gdb sees stays
abbrev pub ObeysTo : {X : Type 0} → (X → Scene) → (X → List ℕ → List ℕ → Bool → X → Type 0) → List ℕ → Bool → List ℕ → Talk → Talk → X → X → List ℕ → Type 0
ObeysTo scene obeys text moved console t u old new sent =
    obeys old text console moved new
    × (sent ≡ console_packet console ++ said (scene new) Done)
    × (u ≡ (if moved then elsewhere t else t))
    × (moved ≡ false → scene new ≡ scene old)

-- all else sends a text, and leaves what gdb sees
abbrev pub Sends : {X : Type 0} → (X → Scene) → Talk → Talk → X → X → List ℕ → List ℕ → Type 0
Sends scene t u old new sent text = (scene new ≡ scene old) × (sent ≡ text) × (u ≡ t)

abbrev pub OnWalked : Outcome → (Halt → Type 0) → Type 0
OnWalked Answered P = ⊥
OnWalked (Walked halt) P = P halt
OnWalked (Placed set) P = ⊥
OnWalked (Obeyed moved) P = ⊥
OnWalked Ended P = ⊥

abbrev pub OnPlaced : Outcome → (Bool → Type 0) → Type 0
OnPlaced Answered P = ⊥
OnPlaced (Walked halt) P = ⊥
OnPlaced (Placed set) P = P set
OnPlaced (Obeyed moved) P = ⊥
OnPlaced Ended P = ⊥

abbrev pub OnObeyed : Outcome → (Bool → Type 0) → Type 0
OnObeyed Answered P = ⊥
OnObeyed (Walked halt) P = ⊥
OnObeyed (Placed set) P = ⊥
OnObeyed (Obeyed moved) P = P moved
OnObeyed Ended P = ⊥

-- what came of a packet by the deed that it asks for. `t` is what was agreed with it, and `u` is agreed behind it
abbrev pub DoneBy : {X : Type 0} → Rules X → List ℕ → Talk → Talk → X → X → List ℕ → List ℕ → Deed → Outcome → Type 0
DoneBy rules bytes t u old new console sent (Answer answer) r = (r ≡ Answered) × Sends rules.scene t u old new sent (said (rules.scene old) answer)
DoneBy rules bytes t u old new console sent (Walk way) r = OnWalked r (λ halt. WalksTo rules.scene rules.walks way halt console t u old new sent)
DoneBy rules bytes t u old new console sent (Insert point address count) r =
    OnPlaced r (λ set. rules.inserts old point address count set new × Sends rules.scene t u old new sent (said (rules.scene old) (placed set)))
DoneBy rules bytes t u old new console sent (Remove point address count) r =
    (r ≡ Answered) × rules.removes old point address count new × Sends rules.scene t u old new sent (said (rules.scene old) Done)
DoneBy rules bytes t u old new console sent Command r =
    OnObeyed r (λ moved. ObeysTo rules.scene rules.obeys (command_of bytes) moved console t u old new sent)
DoneBy rules bytes t u old new console sent Leave r = (r ≡ Ended) × Sends rules.scene t u old new sent (said (rules.scene old) Done)
DoneBy rules bytes t u old new console sent End r = (r ≡ Ended) × Sends rules.scene t u old new sent []

-- what came of a packet with this data
abbrev pub Replies : {X : Type 0} → Rules X → List ℕ → Talk → Talk → X → X → List ℕ → List ℕ → Outcome → Type 0
Replies rules bytes t u old new console sent r =
    let active = active_in (rules.scene old) in
    let request = request_of bytes in
    DoneBy rules bytes (after active t request) u old new console sent (deed_of active t request) r
