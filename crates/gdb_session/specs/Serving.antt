-- What a server takes from gdb and what it puts for it, from the first byte to the last, over a machine of any kind.
-- Source: GDB manual, appendix 'GDB Remote Serial Protocol', section 'Overview'.
use Rattle.std.specs.Prelude.{◌≡◌, ◌⊎◌, ℕ, ◌-◌, ◌^◌, Bool, true, false, List, [], ◌∷◌, ◌++◌, length, Option, Some, Result, Ok, Err}
use Rattle.std.specs.Io.KnownBytes.{Consumes}
use Rattle.mix_io.specs.Streams.{Grows, Output, StopsWithin}
use Rattle.gdb_packets.specs.Stream.{Between, behind, told, told_at}
use Rattle.gdb_packets.specs.declared.event.Event.{Event}
use Rattle.gdb_packets.specs.declared.event.Event.TheVariants.{Packet}
use Rattle.gdb_talk.specs.declared.talk.Talk.{Talk}
use Rattle.gdb_talk.specs.Talks.{first_talk}
use Rattle.gdb_session.specs.Hearing.{Hears, acknowledged, sent_at}
use Rattle.gdb_session.specs.Replies.{Replies, Rules, active_in}
use Rattle.gdb_session.specs.declared.broken.Broken.{Broken}
use Rattle.gdb_session.specs.declared.broken.Broken.TheVariants.{Input, NoMemory, Output as OutputFailed}
use Rattle.gdb_session.specs.declared.outcome.Outcome.{Outcome}
use Rattle.gdb_session.specs.declared.outcome.Outcome.TheVariants.{Ended}

-- where a talk stands: the target, what is agreed with gdb, what the last walk or command told on the console, and what the last
-- packet was answered with
pub record Standing (X : Type 0) : Type 0 where
  pub target : X
  pub talk : Talk
  pub console : List ℕ
  pub sent : List ℕ

abbrev pub standing : {X : Type 0} → X → Talk → List ℕ → List ℕ → Standing X
standing target talk console sent = record { target = target; talk = talk; console = console; sent = sent }

-- before the first packet
abbrev pub first_standing : {X : Type 0} → Rules X → X → Standing X
first_standing rules target = standing target (first_talk (active_in (rules.scene target))) [] []

-- what a stream says at once, with the data of a packet, led from s to t, and these bytes were put for it
abbrev pub Meets : {X : Type 0} → Rules X → Event × List ℕ → Option Outcome → Standing X → Standing X → List ℕ → Type 0
Meets rules event r s t put =
    Hears event.0 r
    (λ outcome. Replies rules event.1 s.talk t.talk s.target t.target t.console t.sent outcome
    × (put ≡ acknowledged s.talk.acknowledges 43 ++ t.sent))
    ((t ≡ s) × (put ≡ sent_at event.0 s.talk.acknowledges s.sent))

-- and these bytes were put whole
abbrev pub MeetsWhole : {X : Type 0} → Rules X → Event × List ℕ → Option Outcome → Standing X → Standing X → Output → Output → Type 0
MeetsWhole rules event r s t out after = (put : List ℕ) × Meets rules event r s t put × Grows out after put

-- gdb left, or ended the program
abbrev pub is_end : Option Outcome → Bool
is_end (Some Ended) = true
is_end _ = false

-- all that a stream said was met in its order, and led from s to t. Nothing of it was the end
pub data Talks {X : Type 0} (rules : Rules X) (s : Standing X) : List (Event × List ℕ) → Standing X → List ℕ → Type 0 where
  begins : Talks rules s [] s []
  goes_on : (events : List (Event × List ℕ)) (event : Event × List ℕ) (r : Option Outcome) (t u : Standing X) (put more : List ℕ)
      → Talks rules s events t put → Meets rules event r t u more → is_end r ≡ false → Talks rules s (events ++ event ∷ []) u (put ++ more)

-- the bytes that were taken of an input, and that all that they say was met
pub record Took {X : Type 0} (rules : Rules X) (left after : Option (List ℕ)) (s t : Standing X) (put : List ℕ) : Type 0 where
  pub taken : List ℕ
  pub from_input : Consumes left after taken
  pub talks : Talks rules s (told Between taken) t put

-- the same, and then one byte more, at which the stream said something that was not met yet
pub record Reached {X : Type 0} (rules : Rules X) (left after : Option (List ℕ)) (s t : Standing X) (put : List ℕ) (event : Event × List ℕ) : Type 0 where
  pub taken : List ℕ
  pub byte : ℕ
  pub from_input : Consumes left after (taken ++ byte ∷ [])
  pub talks : Talks rules s (told Between taken) t put
  pub says : told_at (behind Between taken) byte ≡ event ∷ []

-- what can be put at it: all of it, or the acknowledgement of a packet that is still to be replied to
abbrev pub IsBegun : {X : Type 0} → Rules X → Event × List ℕ → Standing X → List ℕ → Type 0
IsBegun {X = X} rules event s text =
    ((event.0 ≡ Packet) × (text ≡ acknowledged s.talk.acknowledges 43)) ⊎ ((r : Option Outcome) × (t : Standing X) × Meets rules event r s t text)

-- a server that broke off there
abbrev pub BreaksAt : {X : Type 0} → Rules X → Event × List ℕ → Standing X → Output → Output → Broken → Type 0
BreaksAt rules event s out after NoMemory = (event.0 ≡ Packet) × Grows out after (acknowledged s.talk.acknowledges 43)
BreaksAt rules event s out after Input = ⊥
BreaksAt rules event s out after OutputFailed = (text : List ℕ) × IsBegun rules event s text × StopsWithin out after text

-- what a server did with an input and an output, from where it stood, when it answered
pub data Serves {X : Type 0} (rules : Rules X) (first : Standing X) (left left_after : Option (List ℕ)) (out out_after : Output) (result : Result (Unit {0}) Broken) : Type 0 where
  -- all of the input was taken and met
  input_ended : (t : Standing X) (put : List ℕ) → Took rules left left_after first t put → left_after ≡ Some [] → Grows out out_after put
      → result ≡ Ok (record {}) → Serves rules first left left_after out out_after result
  -- gdb left, or ended the program, by the last byte that was taken
  gdb_ended : (event : Event × List ℕ) (t u : Standing X) (put more : List ℕ) → Reached rules left left_after first t put event → Meets rules event (Some Ended) t u more
      → Grows out out_after (put ++ more) → result ≡ Ok (record {}) → Serves rules first left left_after out out_after result
  -- a talk does not go beyond so many bytes
  bytes_ended : (t : Standing X) (put : List ℕ) (took : Took rules left left_after first t put) → length took.taken ≡ 2 ^ 64 - 1 → Grows out out_after put
      → result ≡ Ok (record {}) → Serves rules first left left_after out out_after result
  -- there was no memory to begin
  no_memory_to_begin : Consumes left left_after [] → Grows out out_after [] → result ≡ Err NoMemory → Serves rules first left left_after out out_after result
  -- there was none for the reply to a packet, which was acknowledged
  no_memory : (event : Event × List ℕ) (t : Standing X) (put : List ℕ) → Reached rules left left_after first t put event → event.0 ≡ Packet
      → Grows out out_after (put ++ acknowledged t.talk.acknowledges 43) → result ≡ Err NoMemory → Serves rules first left left_after out out_after result
  -- the input failed, and all of it that was taken was met
  input_failed : (t : Standing X) (put : List ℕ) → Took rules left left_after first t put → Grows out out_after put
      → result ≡ Err Input → Serves rules first left left_after out out_after result
  -- the output failed within what was to be put
  output_failed : (event : Event × List ℕ) (t : Standing X) (put text : List ℕ) → Reached rules left left_after first t put event → IsBegun rules event t text
      → StopsWithin out out_after (put ++ text) → result ≡ Err OutputFailed → Serves rules first left left_after out out_after result
