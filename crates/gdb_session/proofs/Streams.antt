-- A decoder tells of each byte what the stream says at it.
use Rattle.std.proofs.Common.{◌≡◌, ℕ, List, [], ◌∷◌, ◌++◌, refl, sym, ap, ◌∙◌, append_assoc, append-nil}
use Rattle.std.proofs.lemmas.List.{append_cancel_left}
use Rattle.gdb_packets.specs.Reading.{Reading, after, event_at, fresh, telling, told_by}
use Rattle.gdb_packets.specs.Stream.{Between, behind, told, told_at}
use Rattle.gdb_packets.specs.declared.event.Event.{Event}
use Rattle.gdb_packets.proofs.Agreement.{decoder_tells}
use Rattle.gdb_packets.proofs.Streams.{pieces_join}

-- what a decoder keeps of these bytes
abbrev pub kept_of : Reading → List ℕ → Reading
kept_of d [] = d
kept_of d (b ∷ bs) = kept_of (after d b) bs

pub kept_of-more : (d : Reading) (bs : List ℕ) (b : ℕ) → kept_of d (bs ++ b ∷ []) ≡ after (kept_of d bs) b
kept_of-more d [] b = refl
kept_of-more d (x ∷ bs) b = kept_of-more (after d x) bs b

abbrev now : Reading → ℕ → List (Event × List ℕ)
now d b = telling (event_at d b) (after d b).kept

told_by-more : (d : Reading) (bs : List ℕ) (b : ℕ) → told_by d (bs ++ b ∷ []) ≡ told_by d bs ++ now (kept_of d bs) b
told_by-more d [] b = append-nil (now d b)
told_by-more d (x ∷ bs) b = ap (λ l. now d x ++ l) (told_by-more (after d x) bs b) ∙ sym (append_assoc (now d x) (told_by (after d x) bs) (now (kept_of (after d x) bs) b))

pub told-more : (bs : List ℕ) (b : ℕ) → told Between (bs ++ b ∷ []) ≡ told Between bs ++ told_at (behind Between bs) b
told-more bs b = pieces_join Between bs (b ∷ []) ∙ ap (λ l. told Between bs ++ l) (append-nil (told_at (behind Between bs) b))

pub says : (bs : List ℕ) (b : ℕ) → telling (event_at (kept_of fresh bs) b) (after (kept_of fresh bs) b).kept ≡ told_at (behind Between bs) b
says bs b =
    append_cancel_left (told Between bs) (now (kept_of fresh bs) b) (told_at (behind Between bs) b)
    (ap (λ l. l ++ now (kept_of fresh bs) b) (sym (decoder_tells bs)) ∙ sym (told_by-more fresh bs b) ∙ decoder_tells (bs ++ b ∷ []) ∙ told-more bs b)
