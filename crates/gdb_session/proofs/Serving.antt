-- What a server did so far, what one byte more adds to it, and how it ends.
use Rattle.std.proofs.Common.{◌≡◌, ℕ, ◌+◌, ◌-◌, ◌^◌, List, [], ◌∷◌, ◌++◌, length, true, false, Option, Some, None, Result, Ok, Err, refl, sym, ap, ◌∙◌, subst, append-nil, length-append, MatchOption}
use Rattle.std.specs.Io.KnownBytes.{Consumes, IsAtEnd, Keeps}
use Rattle.std.proofs.KnownBytes.{Consumes-kept, Consumes-nil, Consumes-trans}
use Rattle.mix_io.specs.declared.errors.Failed.{Failed}
use Rattle.mix_io.specs.Takes.{Takes}
use Rattle.mix_io.specs.Streams.{Grows, Output}
use Rattle.mix_io.proofs.Streams.{grows-more, grows-none}
use Rattle.gdb_packets.specs.Reading.{Reading, after, event_at, fresh, telling, told_with}
use Rattle.gdb_packets.specs.Stream.{Between, behind, told, told_at}
use Rattle.gdb_packets.specs.declared.event.Event.{Event}
use Rattle.gdb_talk.specs.declared.talk.Talk.{Talk}
use Rattle.gdb_talk.specs.Talks.{first_talk}
use Rattle.gdb_session.specs.Hearing.{BlamesOutput}
use Rattle.gdb_session.specs.Replies.{Rules, active_in}
use Rattle.gdb_session.specs.Serving.{BreaksAt, Meets, MeetsWhole, Reached, Serves, Standing, Talks, Took, first_standing, is_end, standing}
use Rattle.gdb_session.specs.Serving.Talks.{begins, goes_on}
use Rattle.gdb_session.specs.Serving.Serves.{bytes_ended, gdb_ended, input_ended, input_failed, no_memory, no_memory_to_begin, output_failed}
use Rattle.gdb_session.specs.inner.Listening.{Listens, ListensUntil}
use Rattle.gdb_session.specs.declared.broken.Broken.{Broken}
use Rattle.gdb_session.specs.declared.broken.Broken.TheVariants.{Input, NoMemory, Output as OutputFailed}
use Rattle.gdb_session.specs.declared.outcome.Outcome.{Outcome}
use Rattle.gdb_session.specs.declared.outcome.Outcome.TheVariants.{Ended}
use Rattle.gdb_session.proofs.Pieces.{stops-after}
use Rattle.gdb_session.proofs.Streams.{kept_of, kept_of-more, says, told-more}

-- so many bytes were taken, and all that they say was met
pub record Going {X : Type 0} (rules : Rules X) (first : Standing X) (left now : Option (List ℕ)) (out end : Output) (d : Reading) (t : Standing X) (count : ℕ) : Type 0 where
  put : List ℕ
  took : Took rules left now first t put
  grows : Grows out end put
  decoder : d ≡ kept_of fresh took.taken
  counted : length took.taken ≡ count

pub going-first : {X : Type 0} (rules : Rules X) (first : Standing X) (left : Option (List ℕ)) (out : Output) → Going rules first left left out out fresh first 0
going-first rules first left out =
    record {
      put = [];
      took = record { taken = []; from_input = Consumes-nil left; talks = begins };
      grows = grows-none out;
      decoder = refl;
      counted = refl;
    }

-- a server and its decoder at the beginning
pub going-begins : {X : Type 0} (rules : Rules X) (target made : X) (talk : Talk) (console sent : List ℕ) (left : Option (List ℕ)) (out : Output) (d : Reading)
    → d ≡ fresh → made ≡ target → talk ≡ first_talk (active_in (rules.scene target)) → console ≡ [] → sent ≡ []
    → Going rules (first_standing rules target) left left out out d (standing made talk console sent) 0
going-begins {X = X} rules target made talk console sent left out d decoder is agreed told answered =
    let first : standing made talk console sent ≡ first_standing rules target = cc (is, agreed, told, answered) in
    subst (λ (e : Reading). Going rules (first_standing rules target) left left out out e (standing made talk console sent) 0) (sym decoder)
    (subst (λ (t : Standing X). Going rules (first_standing rules target) left left out out fresh t 0) (sym first) (going-first rules (first_standing rules target) left out))

-- what a source tells when it gives a byte, or comes to its end
pub took-byte : (old new : Option (List ℕ)) (o : Option ℕ) (b : ℕ) → o ≡ Some b → Takes {E = Failed} old new (Ok o) → Consumes old new (b ∷ [])
took-byte old new o b is h = subst (λ (p : Option ℕ). Takes {E = Failed} old new (Ok p)) is h

pub took-none : (old new : Option (List ℕ)) (o : Option ℕ) → o ≡ None → Takes {E = Failed} old new (Ok o) → IsAtEnd old × (new ≡ Some [])
took-none old new o is h = subst (λ (p : Option ℕ). Takes {E = Failed} old new (Ok p)) is h

all-taken : (a b : Option (List ℕ)) (bs : List ℕ) → Consumes a b bs → IsAtEnd b → Consumes a (Some []) bs
all-taken None b bs taken end = tt
all-taken (Some x) None bs taken end = absurd taken
all-taken (Some x) (Some y) bs taken end = taken ∙ ap (λ l. bs ++ l) end

-- the input ended, or failed, or had as many bytes as a server takes
pub input-ended : {X : Type 0} (rules : Rules X) (first : Standing X) (left now next : Option (List ℕ)) (out end : Output) (d : Reading) (t : Standing X) (count : ℕ)
    → Going rules first left now out end d t count → IsAtEnd now × (next ≡ Some []) → Serves rules first left next out end (Ok (record {}))
input-ended rules first left now next out end d t count going ends =
    let bytes = going.took.taken in
    let whole : Took rules left next first t going.put =
    record {
      taken = bytes;
      from_input = subst (λ n. Consumes left n bytes) (sym ends.1) (all-taken left now bytes going.took.from_input ends.0);
      talks = going.took.talks;
    } in
    input_ended t going.put whole ends.1 going.grows refl

pub input-failed : {X : Type 0} (rules : Rules X) (first : Standing X) (left now next : Option (List ℕ)) (out end : Output) (d : Reading) (t : Standing X) (count : ℕ)
    → Going rules first left now out end d t count → Keeps now next → Serves rules first left next out end (Err Input)
input-failed rules first left now next out end d t count going keeps =
    let bytes = going.took.taken in
    let whole : Took rules left next first t going.put =
    record { taken = bytes; from_input = Consumes-kept left now next bytes going.took.from_input keeps; talks = going.took.talks } in
    input_failed t going.put whole going.grows refl

pub bytes-ended : {X : Type 0} (rules : Rules X) (first : Standing X) (left now : Option (List ℕ)) (out end : Output) (d : Reading) (t : Standing X) (count : ℕ)
    → Going rules first left now out end d t count → count ≡ 2 ^ 64 - 1 → Serves rules first left now out end (Ok (record {}))
bytes-ended rules first left now out end d t count going many = bytes_ended t going.put going.took (going.counted ∙ many) going.grows refl

-- what the stream says at one byte more
said : (d : Reading) (bs : List ℕ) (b : ℕ) (o : Option Event) → d ≡ kept_of fresh bs → event_at d b ≡ o → told_at (behind Between bs) b ≡ telling o (after d b).kept
said d bs b o is tells = sym (says bs b) ∙ ap (λ k. telling (event_at k b) (after k b).kept) (sym is) ∙ ap (λ e. telling e (after d b).kept) tells

module _ {X : Type 0} (rules : Rules X) (first : Standing X) (left now next : Option (List ℕ)) (out mid end : Output) (d : Reading) (t : Standing X) (count b : ℕ)
    (going : Going rules first left now out mid d t count) (consumed : Consumes now next (b ∷ [])) where
  abbrev bytes : List ℕ
  bytes = going.took.taken

  from_input : Consumes left next (bytes ++ b ∷ [])
  from_input = Consumes-trans left now next bytes (b ∷ []) going.took.from_input consumed

  reached : (e : Event) → event_at d b ≡ Some e → Reached rules left next first t going.put (told_with e (after d b).kept)
  reached e tells =
      record {
        taken = bytes;
        byte = b;
        from_input = from_input;
        talks = going.took.talks;
        says = said d bytes b (Some e) going.decoder tells;
      }

  talks-more : (o : Option Event) (r : Option Outcome) (u : Standing X) (more : List ℕ) → event_at d b ≡ o
      → MatchOption o ((u ≡ t) × (more ≡ [])) (λ e. Meets rules (told_with e (after d b).kept) r t u more) → is_end r ≡ false
      → Talks rules first (told Between (bytes ++ b ∷ [])) u (going.put ++ more)
  talks-more None r u more tells met on =
      subst (λ l. Talks rules first l u (going.put ++ more)) (sym (told-more bytes b ∙ ap (λ l. told Between bytes ++ l) (said d bytes b None going.decoder tells) ∙ append-nil (told Between bytes)))
      (subst (λ l. Talks rules first (told Between bytes) u (going.put ++ l)) (sym met.1)
      (subst (Talks rules first (told Between bytes) u) (sym (append-nil going.put)) (subst (λ s. Talks rules first (told Between bytes) s going.put) (sym met.0) going.took.talks)))
  talks-more (Some e) r u more tells met on =
      subst (λ l. Talks rules first l u (going.put ++ more)) (sym (told-more bytes b ∙ ap (λ l. told Between bytes ++ l) (said d bytes b (Some e) going.decoder tells)))
      (goes_on (told Between bytes) (told_with e (after d b).kept) r t u going.put more going.took.talks met on)

  going-more : (o : Option Event) (r : Option Outcome) (u : Standing X) (more : List ℕ) (d' : Reading) → event_at d b ≡ o
      → MatchOption o ((u ≡ t) × (more ≡ [])) (λ e. Meets rules (told_with e (after d b).kept) r t u more) → is_end r ≡ false
      → Grows mid end more → d' ≡ after d b → Going rules first left next out end d' u (count + 1)
  going-more o r u more d' tells met on grows is =
      record {
        put = going.put ++ more;
        took = record { taken = bytes ++ b ∷ []; from_input = from_input; talks = talks-more o r u more tells met on };
        grows = grows-more out mid end going.put more going.grows grows;
        decoder = is ∙ ap (λ k. after k b) going.decoder ∙ sym (kept_of-more fresh bytes b);
        counted = length-append bytes (b ∷ []) ∙ ap (λ n. n + 1) going.counted;
      }

  went : (o : Option Event) (r : Option Outcome) (u : Standing X) (d' : Reading) → event_at d b ≡ o
      → MatchOption o ((r ≡ None) × (u ≡ t) × (end ≡ mid)) (λ e. MeetsWhole rules (told_with e (after d b).kept) r t u mid end) → is_end r ≡ false → d' ≡ after d b
      → Going rules first left next out end d' u (count + 1)
  went None r u d' tells heard on is = going-more None r u [] d' tells (heard.1, refl) on (subst (λ o. Grows mid o []) (sym heard.2) (grows-none mid)) is
  went (Some e) r u d' tells heard on is = going-more (Some e) r u heard.0 d' tells heard.1 on heard.2 is

  -- one byte more was taken, and what it completes was met
  pub went-on : (r : Option Outcome) (u : Standing X) (d' : Reading) → Listens rules d b r t u mid end → is_end r ≡ false → d' ≡ after d b → Going rules first left next out end d' u (count + 1)
  went-on r u d' listens on is = went (event_at d b) r u d' refl listens on is

  last : (r : Option Outcome) → is_end r ≡ true → r ≡ Some Ended
  last None is = cc
  last (Some Ended) is = refl
  last (Some _) is = cc

  ended : (o : Option Event) (r : Option Outcome) (u : Standing X) → event_at d b ≡ o
      → MatchOption o ((r ≡ None) × (u ≡ t) × (end ≡ mid)) (λ e. MeetsWhole rules (told_with e (after d b).kept) r t u mid end) → r ≡ Some Ended
      → Serves rules first left next out end (Ok (record {}))
  ended None r u tells heard is = cc
  ended (Some e) r u tells heard is =
      gdb_ended (told_with e (after d b).kept) t u going.put heard.0 (reached e tells) (subst (λ o. Meets rules (told_with e (after d b).kept) o t u heard.0) is heard.1)
      (grows-more out mid end going.put heard.0 going.grows heard.2) refl

  -- it ended the talk
  pub left-off : (r : Option Outcome) (u : Standing X) → Listens rules d b r t u mid end → is_end r ≡ true → Serves rules first left next out end (Ok (record {}))
  left-off r u listens is = ended (event_at d b) r u refl listens (last r is)

  broke : (o : Option Event) (broken : Broken) → event_at d b ≡ o → MatchOption o ⊥ (λ e. BreaksAt rules (told_with e (after d b).kept) t mid end broken)
      → Serves rules first left next out end (Err broken)
  broke None broken tells breaks = absurd breaks
  broke (Some e) NoMemory tells breaks = no_memory (told_with e (after d b).kept) t going.put (reached e tells) breaks.0 (grows-more out mid end going.put _ going.grows breaks.1) refl
  broke (Some e) Input tells breaks = absurd breaks
  broke (Some e) OutputFailed tells breaks =
      output_failed (told_with e (after d b).kept) t going.put breaks.0 (reached e tells) breaks.1 (stops-after out mid end going.put breaks.0 going.grows breaks.2) refl

  -- the server broke off at it
  pub broke-off : (broken : Broken) → ListensUntil rules d b t mid end broken → Serves rules first left next out end (Err broken)
  broke-off broken breaks = broke (event_at d b) broken refl breaks

-- the output failed exactly where its count rose
pub blames : {X : Type 0} {rules : Rules X} {first : Standing X} {left now : Option (List ℕ)} {out end : Output} {result : Result (Unit {0}) Broken}
    → Serves rules first left now out end result → BlamesOutput out.faults end.faults result
blames {out = out} {end = end} (input_ended t put took ends grows is) = subst (BlamesOutput out.faults end.faults) (sym is) grows.calm
blames {out = out} {end = end} (gdb_ended event t u put more reached meets grows is) = subst (BlamesOutput out.faults end.faults) (sym is) grows.calm
blames {out = out} {end = end} (bytes_ended t put took many grows is) = subst (BlamesOutput out.faults end.faults) (sym is) grows.calm
blames {out = out} {end = end} (no_memory_to_begin none grows is) = subst (BlamesOutput out.faults end.faults) (sym is) grows.calm
blames {out = out} {end = end} (no_memory event t put reached packet grows is) = subst (BlamesOutput out.faults end.faults) (sym is) grows.calm
blames {out = out} {end = end} (input_failed t put took grows is) = subst (BlamesOutput out.faults end.faults) (sym is) grows.calm
blames {out = out} {end = end} (output_failed event t put text reached begun stops is) = subst (BlamesOutput out.faults end.faults) (sym is) stops.breaks.rose
