-- What a decoder tells of any bytes is what they say.
use Rattle.std.proofs.Common.{◌≡◌, ℕ, ◌+◌, ◌%◌, ◌<◌, ◌≤◌, ◌==◌, nat_lt, List, [], ◌∷◌, ◌++◌, length, take, sum, bit_xor, Bool, true, false, Option, Some, None, if◌then◌else◌, refl, sym, ap, subst, ◌∙◌, arith, length-append}
use Rattle.std.proofs.lemmas.Bool.{ltb-false, ltb-true}
use Rattle.std.proofs.lemmas.List.{append-nil, length-take, take_all, take-append-le}
use Rattle.std.proofs.Common.{min}
use Rattle.std.proofs.lemmas.List.Sums.{sum_by_push}
use Rattle.std.proofs.lemmas.Grind.{common_steps}
use Rattle.gdb_packets.specs.Hex.{byte_said}
use Rattle.gdb_packets.specs.Stream.{Place, Between, Within, Ended, HalfSum, closing, packet_room, place_after, says, signalled, told, told_at, unescaped, unescaped_from, whole}
use Rattle.gdb_packets.specs.Reading.{Reading, after, after_in, at_stage, counting, escaped_by, event_at, event_in, fresh, keeping, opened, plain_byte, telling, told_by, told_with, verdict}
use Rattle.gdb_packets.specs.laws.Streams.{DecoderTells}
use Rattle.gdb_packets.specs.declared.event.Event.{Event}
use Rattle.gdb_packets.specs.declared.event.Event.TheVariants.{Packet, Acknowledged, Refused, Interrupt, BadSum, TooLong}
use Rattle.gdb_packets.specs.declared.stage.Stage.{Stage}
use Rattle.gdb_packets.specs.declared.stage.Stage.TheVariants.{Outside, Inside, Escaped, Sealed, Half}

-- whether the bytes end in a `}` that waits for its byte
abbrev dangling : Bool → List ℕ → Bool
dangling e [] = e
dangling true (b ∷ bs) = dangling false bs
dangling false (b ∷ bs) = dangling (b == 125) bs

abbrev stage_of : Bool → Stage
stage_of true = Escaped
stage_of false = Inside

-- what is kept of a packet of which these bytes have come
record Holds (r : Reading) (raw : List ℕ) : Type 0 where
  sum_is : r.total ≡ sum raw % 256
  kept_is : r.kept ≡ take packet_room (unescaped raw)
  long_is : r.is_long ≡ nat_lt packet_room (length (unescaped raw))

abbrev Stands : Reading → Place → Type 0
Stands r Between = r.stage ≡ Outside
Stands r (Within raw) = (r.stage ≡ stage_of (dangling false raw)) × Holds r raw
Stands r (Ended raw) = (r.stage ≡ Sealed) × Holds r raw
Stands r (HalfSum raw high) = (r.stage ≡ Half high) × Holds r raw

snoc : (e : Bool) (bs : List ℕ) (c : ℕ) → unescaped_from e (bs ++ c ∷ []) ≡ unescaped_from e bs ++ unescaped_from (dangling e bs) (c ∷ [])
snoc e [] c = refl
snoc true (b ∷ bs) c = ap (λ l. bit_xor b 32 ∷ l) (snoc false bs c)
snoc false (b ∷ bs) c =
    elim (b == 125) as (λ t. (if t then unescaped_from true (bs ++ c ∷ []) else b ∷ unescaped_from false (bs ++ c ∷ [])) ≡ (if t then unescaped_from true bs else b ∷ unescaped_from false bs) ++ unescaped_from (dangling t bs) (c ∷ [])) [
      | true ↦ snoc true bs c
      | false ↦ ap (λ l. b ∷ l) (snoc false bs c)
    ]

dangles : (e : Bool) (bs : List ℕ) (c : ℕ) → dangling e (bs ++ c ∷ []) ≡ dangling (dangling e bs) (c ∷ [])
dangles e [] c = refl
dangles true (b ∷ bs) c = dangles false bs c
dangles false (b ∷ bs) c = dangles (b == 125) bs c

sums : (raw : List ℕ) (n b : ℕ) → n ≡ sum raw % 256 → (n + b) % 256 ≡ sum (raw ++ b ∷ []) % 256
sums raw n b h =
    let more : sum (raw ++ b ∷ []) ≡ sum raw + b = sum_by_push (λ x. x) raw b in
    ap (λ m. (m + b) % 256) h ∙ (let same : (sum raw % 256 + b) % 256 ≡ (sum raw + b) % 256 = omega arith in same) ∙ ap (λ m. m % 256) (sym more)

-- one more byte of data, if there is room
keeps : (n : ℕ) (t : Bool) (u k : List ℕ) (c : ℕ) → t ≡ nat_lt (length k) n → k ≡ take n u → (if t then k ++ c ∷ [] else k) ≡ take n (u ++ c ∷ [])
keeps n true u k c h kept =
    let below : length k < n = ltb-true (length k) n (sym h) in
    let long : length k ≡ min n (length u) = ap length kept ∙ length-take n u in
    let all : take n u ≡ u = take_all n u (omega arith) in
    ap (λ l. l ++ c ∷ []) (kept ∙ all) ∙ sym (take_all n (u ++ c ∷ []) (omega (arith, length-append u (c ∷ []))))
keeps n false u k c h kept =
    let full : n ≤ length k = ltb-false (length k) n (sym h) in
    let long : length k ≡ min n (length u) = ap length kept ∙ length-take n u in
    kept ∙ sym (take-append-le n u (c ∷ []) (omega arith))

no_more : (a b : ℕ) → b ≤ a → nat_lt a b ≡ false
no_more a b h = grind (arith, common_steps)

more : (a b : ℕ) → a < b → nat_lt a b ≡ true
more a b h = grind (arith, common_steps)

longer : (n : ℕ) (t : Bool) (u k : List ℕ) (c : ℕ) (l : Bool) → t ≡ nat_lt (length k) n → k ≡ take n u → l ≡ nat_lt n (length u) → (if t then l else true) ≡ nat_lt n (length (u ++ c ∷ []))
longer n true u k c l h kept is =
    let below : length k < n = ltb-true (length k) n (sym h) in
    let long : length k ≡ min n (length u) = ap length kept ∙ length-take n u in
    is ∙ no_more n (length u) (omega arith) ∙ sym (no_more n (length (u ++ c ∷ [])) (omega (arith, length-append u (c ∷ []))))
longer n false u k c l h kept is =
    let full : n ≤ length k = ltb-false (length k) n (sym h) in
    let long : length k ≡ min n (length u) = ap length kept ∙ length-take n u in
    sym (more n (length (u ++ c ∷ [])) (omega (arith, length-append u (c ∷ []))))

within_keep : (t : Bool) (r : Reading) (raw raw' : List ℕ) (c : ℕ) → t ≡ nat_lt (length r.kept) packet_room → r.stage ≡ Inside → dangling false raw' ≡ false
    → r.total ≡ sum raw' % 256 → r.kept ≡ take packet_room (unescaped raw) → r.is_long ≡ nat_lt packet_room (length (unescaped raw)) → unescaped raw' ≡ unescaped raw ++ c ∷ []
    → Stands (if t then record r { kept = r.kept ++ c ∷ [] } else record r { is_long = true }) (Within raw')
within_keep true r raw raw' c h stage waits total kept long undo = (
  stage ∙ ap stage_of (sym waits),
  record {
    sum_is = total;
    kept_is = keeps packet_room true (unescaped raw) r.kept c h kept ∙ ap (take packet_room) (sym undo);
    long_is = longer packet_room true (unescaped raw) r.kept c r.is_long h kept long ∙ ap (λ l. nat_lt packet_room (length l)) (sym undo);
  },
)
within_keep false r raw raw' c h stage waits total kept long undo = (
  stage ∙ ap stage_of (sym waits),
  record {
    sum_is = total;
    kept_is = keeps packet_room false (unescaped raw) r.kept c h kept ∙ ap (take packet_room) (sym undo);
    long_is = longer packet_room false (unescaped raw) r.kept c r.is_long h kept long ∙ ap (λ l. nat_lt packet_room (length l)) (sym undo);
  },
)

frames : (d e : Bool) (r other : Reading) (raw raw' : List ℕ) → Holds r raw → Stands other (Within raw')
    → Stands (if d then opened r else (if e then at_stage Sealed r else other)) (if d then Within [] else (if e then Ended raw else Within raw'))
frames true e r other raw raw' held stands = (refl, record { sum_is = refl; kept_is = refl; long_is = refl })
frames false true r other raw raw' held stands = (refl, record { sum_is = held.sum_is; kept_is = held.kept_is; long_is = held.long_is })
frames false false r other raw raw' held stands = stands

plains : (t : Bool) (r : Reading) (raw : List ℕ) (b : ℕ) → t ≡ (b == 125) → r.stage ≡ Inside → dangling false raw ≡ false → Holds r raw
    → Stands (if t then at_stage Escaped (counting b r) else keeping b (counting b r)) (Within (raw ++ b ∷ []))
plains true r raw b h stage waits held =
    let now : dangling false (raw ++ b ∷ []) ≡ true = dangles false raw b ∙ ap (λ e. dangling e (b ∷ [])) waits ∙ sym h in
    let undo : unescaped (raw ++ b ∷ []) ≡ unescaped raw =
    snoc false raw b ∙ ap (λ e. unescaped raw ++ unescaped_from e (b ∷ [])) waits ∙ ap (λ t. unescaped raw ++ (if t then [] else b ∷ [])) (sym h) ∙ append-nil (unescaped raw) in (
      ap stage_of (sym now),
      record {
        sum_is = sums raw r.total b held.sum_is;
        kept_is = held.kept_is ∙ ap (take packet_room) (sym undo);
        long_is = held.long_is ∙ ap (λ l. nat_lt packet_room (length l)) (sym undo);
      },
    )
plains false r raw b h stage waits held =
    within_keep (nat_lt (length r.kept) packet_room) (counting b r) raw (raw ++ b ∷ []) b refl stage
    (dangles false raw b ∙ ap (λ e. dangling e (b ∷ [])) waits ∙ sym h)
    (sums raw r.total b held.sum_is) held.kept_is held.long_is
    (snoc false raw b ∙ ap (λ e. unescaped raw ++ unescaped_from e (b ∷ [])) waits ∙ ap (λ t. unescaped raw ++ (if t then [] else b ∷ [])) (sym h))

escapes : (r : Reading) (raw : List ℕ) (b : ℕ) → dangling false raw ≡ true → Holds r raw → Stands (escaped_by r b) (Within (raw ++ b ∷ []))
escapes r raw b waits held =
    within_keep (nat_lt (length r.kept) packet_room) (counting b (at_stage Inside r)) raw (raw ++ b ∷ []) (bit_xor b 32) refl refl
    (dangles false raw b ∙ ap (λ e. dangling e (b ∷ [])) waits)
    (sums raw r.total b held.sum_is) held.kept_is held.long_is
    (snoc false raw b ∙ ap (λ e. unescaped raw ++ unescaped_from e (b ∷ [])) waits)

opens : (t : Bool) (r : Reading) → r.stage ≡ Outside → Stands (if t then opened r else r) (if t then Within [] else Between)
opens true r h = (refl, record { sum_is = refl; kept_is = refl; long_is = refl })
opens false r h = h

-- a byte outside of packets tells no packet
signals : (a c d : Bool) (kept : List ℕ) → let o : Option Event = if a then Some Acknowledged else (if c then Some Refused else (if d then Some Interrupt else None)) in telling o kept ≡ signalled o
signals true c d kept = refl
signals false true d kept = refl
signals false false true kept = refl
signals false false false kept = refl

decides : (s l : Bool) (kept bytes : List ℕ) → kept ≡ take packet_room bytes → l ≡ nat_lt packet_room (length bytes)
    → told_with (if s then (if l then TooLong else Packet) else BadSum) kept ≡ (if s then (if l then (TooLong, []) else (Packet, bytes)) else (BadSum, []))
decides false l kept bytes h is = refl
decides true true kept bytes h is = refl
decides true false kept bytes h is =
    let short : length bytes ≤ packet_room = ltb-false packet_room (length bytes) (sym is) in
    ap (λ k. (Packet, k)) (h ∙ take_all packet_room bytes short)

closes : (r : Reading) (raw : List ℕ) (high low : ℕ) → Holds r raw → told_with (verdict r high low) r.kept ≡ closing raw high low
closes r raw high low held =
    decides (says (byte_said high low) r.total) r.is_long r.kept (unescaped raw) held.kept_is held.long_is
    ∙ ap (λ l. if says (byte_said high low) r.total then (if l then (TooLong, []) else (Packet, unescaped raw)) else (BadSum, [])) held.long_is
    ∙ ap (λ n. if says (byte_said high low) n then whole (unescaped raw) else (BadSum, [])) held.sum_is

inside : (e : Bool) (r : Reading) (raw : List ℕ) (b : ℕ) → dangling false raw ≡ e → r.stage ≡ stage_of e → Holds r raw
    → Stands (after_in (stage_of e) r b) (place_after (Within raw) b) × (event_in (stage_of e) r b ≡ None)
inside true r raw b waits stage held = (frames (b == 36) (b == 35) r (escaped_by r b) raw (raw ++ b ∷ []) held (escapes r raw b waits held), refl)
inside false r raw b waits stage held = (frames (b == 36) (b == 35) r (plain_byte r b) raw (raw ++ b ∷ []) held (plains (b == 125) r raw b refl stage waits held), refl)

step : (p : Place) (r : Reading) (b : ℕ) → Stands r p → Stands (after r b) (place_after p b) × (telling (event_at r b) (after r b).kept ≡ told_at p b)
unfolding after event_at
step Between r b h = (
  subst (λ s. Stands (after_in s r b) (place_after Between b)) (sym h) (opens (b == 36) r h),
  subst (λ s. telling (event_in s r b) (after_in s r b).kept ≡ told_at Between b) (sym h) (signals (b == 43) (b == 45) (b == 3) (after_in Outside r b).kept),
)
step (Within raw) r b h =
    let e : Bool = dangling false raw in
    let both : Stands (after_in (stage_of e) r b) (place_after (Within raw) b) × (event_in (stage_of e) r b ≡ None) = inside e r raw b refl h.0 h.1 in (
      subst (λ s. Stands (after_in s r b) (place_after (Within raw) b)) (sym h.0) both.0,
      subst (λ s. telling (event_in s r b) (after_in s r b).kept ≡ []) (sym h.0) (ap (λ o. telling o (after_in (stage_of e) r b).kept) both.1),
    )
step (Ended raw) r b h = (
  subst (λ s. Stands (after_in s r b) (HalfSum raw b)) (sym h.0) (refl, record { sum_is = h.1.sum_is; kept_is = h.1.kept_is; long_is = h.1.long_is }),
  subst (λ s. telling (event_in s r b) (after_in s r b).kept ≡ []) (sym h.0) refl,
)
step (HalfSum raw high) r b h = (
  subst (λ s. Stands (after_in s r b) Between) (sym h.0) refl,
  subst (λ s. telling (event_in s r b) (after_in s r b).kept ≡ closing raw high b ∷ []) (sym h.0) (ap (λ t. t ∷ []) (closes r raw high b h.1)),
)

agree : (bytes : List ℕ) (p : Place) (r : Reading) → Stands r p → told_by r bytes ≡ told p bytes
agree [] p r h = refl
agree (b ∷ bytes) p r h =
    let now = step p r b h in
    ap (λ t. t ++ told_by (after r b) bytes) now.1 ∙ ap (λ t. told_at p b ++ t) (agree bytes (place_after p b) (after r b) now.0)

pub decoder_tells : DecoderTells
decoder_tells bytes = agree bytes Between fresh refl
