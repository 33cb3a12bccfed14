-- How far what is put at something that a stream says comes.
use Rattle.std.proofs.Common.{◌≡◌, ◌⊎◌, ℕ, List, ◌++◌, Option, Some, None, Result, Ok, Err, inl, inr, refl, sym, ap, ◌∙◌, subst, IfErr, MatchOption}
use Rattle.mix_io.specs.Streams.{Grows, Output}
use Rattle.gdb_packets.specs.Reading.{Reading, after, event_at, told_with}
use Rattle.gdb_packets.specs.declared.event.Event.{Event}
use Rattle.gdb_packets.specs.declared.event.Event.TheVariants.{Packet, Acknowledged, Refused, Interrupt, BadSum, TooLong}
use Rattle.gdb_session.specs.Hearing.{acknowledged}
use Rattle.gdb_session.specs.Replies.{Rules}
use Rattle.gdb_session.specs.Serving.{BreaksAt, IsBegun, Meets, MeetsWhole, Standing}
use Rattle.gdb_session.specs.inner.Listening.{CutsOff, ListensUntil, RepliesTo, RepliesUntil}
use Rattle.gdb_session.specs.declared.broken.Broken.{Broken}
use Rattle.gdb_session.specs.declared.broken.Broken.TheVariants.{Input, NoMemory, Output as OutputFailed}
use Rattle.gdb_session.specs.declared.outcome.Outcome.{Outcome}
use Rattle.gdb_session.proofs.Pieces.{cut, cut-second, cut-behind}

module _ {X : Type 0} (rules : Rules X) where
  -- the acknowledgement of a packet was not put whole
  pub acknowledgement-cut : (bytes : List ℕ) (s : Standing X) (out end : Output) (broken : Broken) → CutsOff out end (acknowledged s.talk.acknowledges 43) broken
      → BreaksAt rules (Packet, bytes) s out end broken
  acknowledgement-cut bytes s out end NoMemory h = absurd h
  acknowledgement-cut bytes s out end Input h = absurd h
  acknowledgement-cut bytes s out end OutputFailed h = (acknowledged s.talk.acknowledges 43, inl (refl, refl), cut out end _ h)

  -- the reply was not
  pub reply-cut : (bytes : List ℕ) (s t : Standing X) (outcome : Outcome) (out end : Output) (broken : Broken) → RepliesTo rules bytes s t outcome → CutsOff out end t.sent broken
      → RepliesUntil rules bytes s out end broken
  reply-cut bytes s t outcome out end NoMemory replies h = absurd h
  reply-cut bytes s t outcome out end Input replies h = absurd h
  reply-cut bytes s t outcome out end OutputFailed replies h = (outcome, t, replies, h)

  behind : (bytes : List ℕ) (s : Standing X) (out mid end : Output) (broken : Broken) → Grows out mid (acknowledged s.talk.acknowledges 43) → RepliesUntil rules bytes s mid end broken
      → BreaksAt rules (Packet, bytes) s out end broken
  behind bytes s out mid end NoMemory put h = (refl, cut-behind out mid end _ put h)
  behind bytes s out mid end Input put h = absurd h
  behind bytes s out mid end OutputFailed put h =
      let t = h.1 in
      let meets : Meets rules (Packet, bytes) (Some h.0) s t (acknowledged s.talk.acknowledges 43 ++ t.sent) = (h.2, refl) in
      (acknowledged s.talk.acknowledges 43 ++ t.sent, inr (Some h.0, t, meets), cut-second out mid end _ t.sent put h.3)

  pub behind-acknowledgement : {V : Type 0} (bytes : List ℕ) (s : Standing X) (out mid end : Output) (result : Result V Broken) → Grows out mid (acknowledged s.talk.acknowledges 43)
      → IfErr result (λ b. RepliesUntil rules bytes s mid end b) → IfErr result (λ b. BreaksAt rules (Packet, bytes) s out end b)
  behind-acknowledgement bytes s out mid end (Ok v) put h = tt
  behind-acknowledgement bytes s out mid end (Err b) put h = behind bytes s out mid end b put h

  pub at-packet : (e : Event) (bytes : List ℕ) (s : Standing X) (out end : Output) (broken : Broken) → e ≡ Packet → BreaksAt rules (Packet, bytes) s out end broken → BreaksAt rules (e, bytes) s out end broken
  at-packet e bytes s out end broken is h = subst (λ f. BreaksAt rules (f, bytes) s out end broken) (sym is) h

  said : (e : Event) (bytes piece : List ℕ) (s : Standing X) (out end : Output) (broken : Broken) → Meets rules (e, bytes) None s s piece → CutsOff out end piece broken → BreaksAt rules (e, bytes) s out end broken
  said e bytes piece s out end NoMemory meets h = absurd h
  said e bytes piece s out end Input meets h = absurd h
  said e bytes piece s out end OutputFailed meets h = (piece, inr (None, s, meets), cut out end piece h)

  -- what is sent at all else was not put whole
  pub said-cut : {V : Type 0} (e f : Event) (bytes piece : List ℕ) (s : Standing X) (out end : Output) (result : Result V Broken) → e ≡ f → Meets rules (f, bytes) None s s piece
      → IfErr result (λ b. CutsOff out end piece b) → IfErr result (λ b. BreaksAt rules (e, bytes) s out end b)
  said-cut e f bytes piece s out end (Ok v) is meets h = tt
  said-cut e f bytes piece s out end (Err b) is meets h = subst (λ g. BreaksAt rules (g, bytes) s out end b) (sym is) (said f bytes piece s out end b meets h)

  -- the sign of a packet that was not taken was not put whole
  pub refusal-cut : {V : Type 0} (e : Event) (bytes : List ℕ) (s : Standing X) (out end : Output) (result : Result V Broken) → (e ≡ BadSum) ⊎ (e ≡ TooLong)
      → IfErr result (λ b. CutsOff out end (acknowledged s.talk.acknowledges 45) b) → IfErr result (λ b. BreaksAt rules (e, bytes) s out end b)
  refusal-cut e bytes s out end result (inl is) h = said-cut e BadSum bytes (acknowledged s.talk.acknowledges 45) s out end result is (refl, (refl, refl)) h
  refusal-cut e bytes s out end result (inr is) h = said-cut e TooLong bytes (acknowledged s.talk.acknowledges 45) s out end result is (refl, (refl, refl)) h

  -- an event is told with the data that it has
  pub hears-told : (e : Event) (kept : List ℕ) (r : Option Outcome) (s t : Standing X) (out end : Output) → MeetsWhole rules (e, kept) r s t out end → MeetsWhole rules (told_with e kept) r s t out end
  hears-told Packet kept r s t out end h = h
  hears-told Acknowledged kept r s t out end h = h
  hears-told Refused kept r s t out end h = h
  hears-told Interrupt kept r s t out end h = h
  hears-told BadSum kept r s t out end h = h
  hears-told TooLong kept r s t out end h = h

  told_event : (e : Event) (kept : List ℕ) → (told_with e kept).0 ≡ e
  told_event Packet kept = refl
  told_event Acknowledged kept = refl
  told_event Refused kept = refl
  told_event Interrupt kept = refl
  told_event BadSum kept = refl
  told_event TooLong kept = refl

  begun-told : (e : Event) (kept text : List ℕ) (s : Standing X) → IsBegun rules (e, kept) s text → IsBegun rules (told_with e kept) s text
  begun-told Packet kept text s h = h
  begun-told Acknowledged kept text s h = h
  begun-told Refused kept text s h = h
  begun-told Interrupt kept text s h = h
  begun-told BadSum kept text s h = h
  begun-told TooLong kept text s h = h

  breaks-told : (e : Event) (kept : List ℕ) (s : Standing X) (out end : Output) (broken : Broken) → BreaksAt rules (e, kept) s out end broken → BreaksAt rules (told_with e kept) s out end broken
  breaks-told e kept s out end NoMemory h = (told_event e kept ∙ h.0, h.1)
  breaks-told e kept s out end Input h = h
  breaks-told e kept s out end OutputFailed h = (h.0, begun-told e kept h.0 s h.1, h.2)

  -- a byte completes what the decoder then tells of
  pub listens-until : {V : Type 0} (d d' : Reading) (byte : ℕ) (e : Event) (bytes : List ℕ) (s : Standing X) (out end : Output) (result : Result V Broken) → event_at d byte ≡ Some e → d' ≡ after d byte → bytes ≡ d'.kept
      → IfErr result (λ b. BreaksAt rules (e, bytes) s out end b) → IfErr result (λ b. ListensUntil rules d byte s out end b)
  listens-until d d' byte e bytes s out end (Ok v) tells is kept h = tt
  listens-until d d' byte e bytes s out end (Err b) tells is kept h =
      subst (λ o. MatchOption o ⊥ (λ f. BreaksAt rules (told_with f (after d byte).kept) s out end b)) (sym tells)
      (breaks-told e (after d byte).kept s out end b (subst (λ k. BreaksAt rules (e, k) s out end b) (kept ∙ ap (λ (k : Reading). k.kept) is) h))
