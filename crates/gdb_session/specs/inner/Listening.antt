-- What a server does with one byte that a decoder takes, and with one piece that it puts.
use Rattle.std.specs.Prelude.{◌≡◌, ℕ, List, [], Option, None, MatchOption}
use Rattle.mix_io.specs.Streams.{Breaks, Grows, Output}
use Rattle.gdb_packets.specs.declared.event.Event.{Event}
use Rattle.gdb_packets.specs.Reading.{Reading, after, event_at, told_with}
use Rattle.gdb_session.specs.Replies.{Replies, Rules}
use Rattle.gdb_session.specs.Serving.{BreaksAt, MeetsWhole, Standing}
use Rattle.gdb_session.specs.declared.broken.Broken.{Broken}
use Rattle.gdb_session.specs.declared.broken.Broken.TheVariants.{Input, NoMemory, Output as OutputFailed}
use Rattle.gdb_session.specs.declared.outcome.Outcome.{Outcome}

-- a piece was not put whole, which is the output's failure
abbrev pub CutsOff : Output → Output → List ℕ → Broken → Type 0
CutsOff out after piece NoMemory = ⊥
CutsOff out after piece Input = ⊥
CutsOff out after piece OutputFailed = Breaks out after [] piece

-- a packet with this data was replied to
abbrev pub RepliesTo : {X : Type 0} → Rules X → List ℕ → Standing X → Standing X → Outcome → Type 0
RepliesTo rules bytes s t outcome = Replies rules bytes s.talk t.talk s.target t.target t.console t.sent outcome

-- there was no memory for the reply, or it was not put whole
abbrev pub RepliesUntil : {X : Type 0} → Rules X → List ℕ → Standing X → Output → Output → Broken → Type 0
RepliesUntil rules bytes s out end NoMemory = Grows out end []
RepliesUntil rules bytes s out end Input = ⊥
RepliesUntil {X = X} rules bytes s out end OutputFailed = (outcome : Outcome) × (t : Standing X) × RepliesTo rules bytes s t outcome × Breaks out end [] t.sent

-- a byte completes what a decoder then tells of, or nothing
abbrev pub Listens : {X : Type 0} → Rules X → Reading → ℕ → Option Outcome → Standing X → Standing X → Output → Output → Type 0
Listens rules d byte r s t out end =
    MatchOption (event_at d byte) ((r ≡ None) × (t ≡ s) × (end ≡ out)) (λ e. MeetsWhole rules (told_with e (after d byte).kept) r s t out end)

abbrev pub ListensUntil : {X : Type 0} → Rules X → Reading → ℕ → Standing X → Output → Output → Broken → Type 0
ListensUntil rules d byte s out end broken = MatchOption (event_at d byte) ⊥ (λ e. BreaksAt rules (told_with e (after d byte).kept) s out end broken)
