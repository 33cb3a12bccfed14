-- What a stream says: in pieces, of a packet, and of a packet that was put.
use Rattle.std.proofs.Common.{◌≡◌, ℕ, ◌/◌, ◌%◌, ◌≤◌, ◌==◌, nat_lt, List, [], ◌∷◌, ◌++◌, length, Bool, true, false, Some, if◌then◌else◌, refl, sym, ap, ◌∙◌, arith, append_assoc, sum}
use Rattle.std.specs.List.{AllByRecursion, flat_map}
use Rattle.std.proofs.Math.Nat.{mod-lt}
use Rattle.std.proofs.lemmas.Bool.{eq-eqb, eqb-true}
use Rattle.std.proofs.lemmas.Grind.{common_steps}
use Rattle.std.proofs.lemmas.List.{append-nil}
use Rattle.gdb_packets.specs.declared.event.Event.{Event}
use Rattle.gdb_packets.specs.Hex.{digit_of}
use Rattle.gdb_packets.specs.Packets.{packet_text}
use Rattle.gdb_packets.specs.Stream.{Between, Within, Ended, behind, closing, escaped_byte, packet_room, place_after, says, told, told_at, unescaped, unescaped_from, whole}
use Rattle.gdb_packets.specs.laws.Streams.{IsPlain, PacketsTell, PiecesJoin, ReadsBack}
use Rattle.gdb_packets.specs.declared.event.Event.TheVariants.{Packet, TooLong, BadSum}
use Rattle.gdb_packets.proofs.Digits.{reads_bytes}

pub pieces_join : PiecesJoin
pieces_join p [] ys = refl
pieces_join p (x ∷ xs) ys = ap (λ t. told_at p x ++ t) (pieces_join (place_after p x) xs ys) ∙ sym (append_assoc (told_at p x) (told (place_after p x) xs) (told (behind (place_after p x) xs) ys))

-- a plain byte in a packet is one more of it
plain_step : (d h : Bool) (raw : List ℕ) (b : ℕ) → d ≡ false → h ≡ false → (if d then Within [] else (if h then Ended raw else Within (raw ++ b ∷ []))) ≡ Within (raw ++ b ∷ [])
plain_step false false raw b d h = refl
plain_step false true raw b d h = cc
plain_step true false raw b d h = cc
plain_step true true raw b d h = cc

through : (front raw rest : List ℕ) → AllByRecursion IsPlain raw → told (Within front) (raw ++ rest) ≡ told (Within (front ++ raw)) rest
through front [] rest all = ap (λ l. told (Within l) rest) (sym (append-nil front))
through front (b ∷ raw) rest all =
    ap (λ p. told p (raw ++ rest)) (plain_step (b == 36) (b == 35) front b all.0.0 all.0.1)
    ∙ through (front ++ b ∷ []) raw rest all.1
    ∙ ap (λ l. told (Within l) rest) (append_assoc front (b ∷ []) raw)

pub packets_tell : PacketsTell
packets_tell raw high low rest all = through [] raw (35 ∷ high ∷ low ∷ rest) all

-- undoing the escape of one byte

other : (a c d e : Bool) (b : ℕ) (bs : List ℕ) → a ≡ (b == 125) → c ≡ (b == 35) → d ≡ (b == 36) → e ≡ (b == 42)
    → unescaped_from false ((if a then 125 ∷ 93 ∷ [] else (if c then 125 ∷ 3 ∷ [] else (if d then 125 ∷ 4 ∷ [] else (if e then 125 ∷ 10 ∷ [] else b ∷ [])))) ++ bs) ≡ b ∷ unescaped_from false bs
other true c d e b bs h i j k = ap (λ n. n ∷ unescaped_from false bs) (sym (eqb-true b 125 (sym h)))
other false true d e b bs h i j k = ap (λ n. n ∷ unescaped_from false bs) (sym (eqb-true b 35 (sym i)))
other false false true e b bs h i j k = ap (λ n. n ∷ unescaped_from false bs) (sym (eqb-true b 36 (sym j)))
other false false false true b bs h i j k = ap (λ n. n ∷ unescaped_from false bs) (sym (eqb-true b 42 (sym k)))
other false false false false b bs h i j k = ap (λ t. if t then unescaped_from true bs else b ∷ unescaped_from false bs) (sym h)

undone : (bytes : List ℕ) → unescaped_from false (flat_map escaped_byte bytes) ≡ bytes
undone [] = refl
undone (b ∷ bytes) = other (b == 125) (b == 35) (b == 36) (b == 42) b (flat_map escaped_byte bytes) refl refl refl refl ∙ ap (λ l. b ∷ l) (undone bytes)

-- escaped bytes are plain
one_plain : (a c d e : Bool) (b : ℕ) (bs : List ℕ) → c ≡ (b == 35) → d ≡ (b == 36) → AllByRecursion IsPlain bs
    → AllByRecursion IsPlain ((if a then 125 ∷ 93 ∷ [] else (if c then 125 ∷ 3 ∷ [] else (if d then 125 ∷ 4 ∷ [] else (if e then 125 ∷ 10 ∷ [] else b ∷ [])))) ++ bs)
one_plain true c d e b bs i j all = ((refl, refl), ((refl, refl), all))
one_plain false true d e b bs i j all = ((refl, refl), ((refl, refl), all))
one_plain false false true e b bs i j all = ((refl, refl), ((refl, refl), all))
one_plain false false false true b bs i j all = ((refl, refl), ((refl, refl), all))
one_plain false false false false b bs i j all = ((sym j, sym i), all)

all_plain : (bytes : List ℕ) → AllByRecursion IsPlain (flat_map escaped_byte bytes)
all_plain [] = tt
all_plain (b ∷ bytes) = one_plain (b == 125) (b == 35) (b == 36) (b == 42) b (flat_map escaped_byte bytes) refl refl (all_plain bytes)

no_more : (a b : ℕ) → b ≤ a → nat_lt a b ≡ false
no_more a b h = grind (arith, common_steps)

fits : (bytes : List ℕ) → length bytes ≤ packet_room → whole bytes ≡ (Packet, bytes)
fits bytes short =
    let told_of : Bool → Event × List ℕ = λ t. if t then (TooLong, []) else (Packet, bytes) in
    ap told_of (no_more packet_room (length bytes) short)

right_sum : (n : ℕ) → says (Some n) n ≡ true
right_sum n = eq-eqb n n refl

closes : (raw bytes : List ℕ) → unescaped raw ≡ bytes → length bytes ≤ packet_room → closing raw (digit_of (sum raw % 256 / 16)) (digit_of (sum raw % 256 % 16)) ≡ (Packet, bytes)
closes raw bytes undo short =
    let n : ℕ = sum raw % 256 in
    ap (λ o. if says o n then whole (unescaped raw) else (BadSum, [])) (reads_bytes n (mod-lt (sum raw) (omega arith)))
    ∙ ap (λ t. if t then whole (unescaped raw) else (BadSum, [])) (right_sum n)
    ∙ ap whole undo ∙ fits bytes short

pub reads_back : ReadsBack
unfolding packet_text
reads_back bytes rest short =
    let raw : List ℕ = flat_map escaped_byte bytes in
    let n : ℕ = sum raw % 256 in
    ap (λ l. told Between (36 ∷ l)) (append_assoc raw (35 ∷ digit_of (n / 16) ∷ digit_of (n % 16) ∷ []) rest)
    ∙ packets_tell raw (digit_of (n / 16)) (digit_of (n % 16)) rest (all_plain bytes)
    ∙ ap (λ e. e ∷ told Between rest) (closes raw bytes (undone bytes) short)
