-- Strings by whole registers: four bytes one after another are a word.
use Rattle.std.proofs.Common.{◌≡◌, inl, inr, ℕ, ◌+◌, ◌*◌, ◌/◌, ◌%◌, ◌<◌, ◌≤◌, Bool, true, false, List, [], ◌∷◌, ◌++◌, length, None, Ok, Err, arith, refl, sym, ◌∙◌, ap, subst, get_or-set_same}
use Rattle.std.specs.Prelude.{◌==◌, ◌-◌, if◌then◌else◌, get_or, slice_index, slice_set}
use Rattle.std.proofs.lemmas.List.{get_or-drop, set-set}
use Rattle.std.proofs.lemmas.Bool.{cases_lt}
use Rattle.std.proofs.lemmas.Bool.Decides.{nat_tests}
use Rattle.std.specs.Int.{byte_at}
use Rattle.byteorder.specs.Endian.{big_bytes}
use Rattle.mix_bits.specs.Addresses.{onward}
use Rattle.mix_bits.specs.Digits.{digit_of, digit_replaced}
use Rattle.mix_bits.specs.declared.size.Size.TheVariants.{One, Four}
use Rattle.big_memory.specs.declared.refusals.Access.TheVariants.{Outside}
use Rattle.big_memory.specs.laws.Laws.{Passes}
use Rattle.big_memory.specs.Lists.{put}
use Rattle.big_memory.specs.laws.Memory.{IsFree}
use Rattle.big_memory.specs.Memory.{IsRam, Memory, in_memory, loaded, meets_gate, refusal, stored}
use Rattle.big_memory.specs.Numbers.{long_at, number_at}
use Rattle.big_memory.specs.StoresClauses.{OnlyFree}
use Rattle.big_memory.proofs.Free.{free_refusals}
use Rattle.big_memory.proofs.Guarded.{free_from_test, passes, refusal-none, test_from_free}
use Rattle.big_memory.proofs.Lists.{put-append}
use Rattle.ppc_integer.specs.Strings.{in_order, load_byte, string_byte, with_string_byte}
use Rattle.ppc_core.specs.inner.Tested.{BytesOpen, BytesThere}
use Rattle.ppc_core.proofs.Order.{Stored, byte-more, byte-open, stored-more}

-- where four bytes of a string lie, the first of them byte k: memory has no end between them
record Four_at (m : Memory) (at k : ℕ) : Type 0 where
  inside : onward at k + 4 ≤ length m.bytes
  second : onward at (k + 1) ≡ onward at k + 1
  third : onward at (k + 1 + 1) ≡ onward at k + 2
  fourth : onward at (k + 1 + 1 + 1) ≡ onward at k + 3

four-at : (m : Memory) (at k : ℕ) → length m.bytes ≤ 16777216 → onward at k + 1 ≤ length m.bytes → onward at (k + 1 + 1 + 1) + 1 ≤ length m.bytes → Four_at m at k
four-at m at k most first last =
    let fourth : onward at (k + 1 + 1 + 1) ≡ onward at k + 3 = omega (arith, most, first, last) in
    record {
      inside = omega (arith, fourth, last);
      second = omega (arith, most, first);
      third = omega (arith, most, first);
      fourth = fourth;
    }

-- a byte that can be loaded lies in memory
inside-of : (inside : Bool) (a v w : ℕ) → (if inside then Ok v else Err (Outside a)) ≡ Ok w → inside ≡ true
inside-of true a v w is = refl
inside-of false a v w is = absurd (cc)

lies : (m : Memory) (a : ℕ) → in_memory m a 1 ≡ true → a + 1 ≤ length m.bytes
lies m a there = grind (arith, nat_tests, there)

loads-four : (m : Memory) (at n k : ℕ) → IsRam m → BytesThere m at n → k + 4 ≤ n → Four_at m at k
loads-four m at n k ram there all =
    let at-k = λ (j : ℕ) (below : j < n). lies m (onward at j) (inside-of (in_memory m (onward at j) 1) (onward at j) (number_at (onward at j) 1 m.bytes) (there j below).0 (there j below).1) in
    four-at m at k ram.most (at-k k (omega (arith, all))) (at-k (k + 1 + 1 + 1) (omega (arith, all)))

pub word-inside : (m : Memory) (at n k : ℕ) → IsRam m → BytesThere m at n → k + 4 ≤ n → onward at k + 4 ≤ length m.bytes
word-inside m at n k ram there all = (loads-four m at n k ram there all).inside

-- a byte, and the four of a long
byte-here : (m : Memory) (at k a : ℕ) → onward at k ≡ a → a + 1 ≤ length m.bytes → loaded m (onward at k) One ≡ Ok (get_or m.bytes a 0)
byte-here m at k a place inside =
    let yes : in_memory m a 1 ≡ true = grind (arith, nat_tests, inside) in
    let one : number_at a 1 m.bytes ≡ get_or m.bytes (a + 0) 0 = rw (get_or-drop a m.bytes 0 0) (grind arith) in
    let same : a + 0 ≡ a = omega arith in
    ap (λ x. loaded m x One) place ∙ ap (λ t. if t then Ok (number_at a 1 m.bytes) else Err (Outside a)) yes ∙ ap (λ v. Ok v) (one ∙ ap (λ i. get_or m.bytes i 0) same)

long-is : (a : ℕ) (xs : List ℕ) → long_at a xs ≡ get_or xs a 0 * 16777216 + get_or xs (a + 1) 0 * 65536 + get_or xs (a + 2) 0 * 256 + get_or xs (a + 3) 0
unfolding long_at
long-is a xs = rw (get_or-drop a xs 0 0, get_or-drop a xs 1 0, get_or-drop a xs 2 0, get_or-drop a xs 3 0) (grind arith)

-- a byte in its register, of which w stands there
abbrev added : ℕ → ℕ → ℕ → ℕ
added e old b = digit_replaced (if e == 0 then 0 else old) (24 - 8 * e) 8 b

abbrev in_register : List ℕ → ℕ → ℕ → ℕ → List ℕ
in_register gpr n e b = slice_set gpr n (added e (slice_index gpr n) b)

first-byte : (gpr : List ℕ) (d j k b : ℕ) → k / 4 ≡ j → k % 4 ≡ 0 → with_string_byte gpr d k b ≡ slice_set gpr ((d + j) % 32) (b * 16777216)
first-byte gpr d j k b q r =
    let place : digit_replaced 0 24 8 b ≡ b * 16777216 = omega arith in
    ap (λ i. in_register gpr ((d + i) % 32) (k % 4) b) q ∙ ap (λ e. in_register gpr ((d + j) % 32) e b) r ∙ ap (λ v. slice_set gpr ((d + j) % 32) v) place

next-byte : (gpr : List ℕ) (d j k e w b v : ℕ) → (d + j) % 32 < length gpr → k / 4 ≡ j → k % 4 ≡ e → (e == 0) ≡ false → digit_replaced w (24 - 8 * e) 8 b ≡ v
    → with_string_byte (slice_set gpr ((d + j) % 32) w) d k b ≡ slice_set gpr ((d + j) % 32) v
next-byte gpr d j k e w b v there q r later is =
    let n : ℕ = (d + j) % 32 in
    let all : List ℕ = slice_set gpr n w in
    ap (λ i. in_register all ((d + i) % 32) (k % 4) b) q ∙ ap (λ x. in_register all n x b) r
    ∙ ap (λ t. slice_set all n (digit_replaced (if t then 0 else slice_index all n) (24 - 8 * e) 8 b)) later
    ∙ ap (λ old. slice_set all n (digit_replaced old (24 - 8 * e) 8 b)) (get_or-set_same gpr n w 0 there)
    ∙ ap (λ x. slice_set all n x) is ∙ set-set gpr n w v

four-bytes : (gpr : List ℕ) (d j b0 b1 b2 b3 : ℕ) → length gpr ≡ 32
    → with_string_byte (with_string_byte (with_string_byte (with_string_byte gpr d (4 * j) b0) d (4 * j + 1) b1) d (4 * j + 1 + 1) b2) d (4 * j + 1 + 1 + 1) b3
    ≡ slice_set gpr ((d + j) % 32) (b0 * 16777216 + b1 * 65536 + b2 * 256 + b3)
four-bytes gpr d j b0 b1 b2 b3 count =
    let there : (d + j) % 32 < length gpr = rw count (omega arith) in
    ap (λ l. with_string_byte (with_string_byte (with_string_byte l d (4 * j + 1) b1) d (4 * j + 1 + 1) b2) d (4 * j + 1 + 1 + 1) b3) (first-byte gpr d j (4 * j) b0 (omega arith) (omega arith))
    ∙ ap (λ l. with_string_byte (with_string_byte l d (4 * j + 1 + 1) b2) d (4 * j + 1 + 1 + 1) b3) (next-byte gpr d j (4 * j + 1) 1 (b0 * 16777216) b1 (b0 * 16777216 + b1 * 65536) there (omega arith) (omega arith) refl (omega arith))
    ∙ ap (λ l. with_string_byte l d (4 * j + 1 + 1 + 1) b3) (next-byte gpr d j (4 * j + 1 + 1) 2 (b0 * 16777216 + b1 * 65536) b2 (b0 * 16777216 + b1 * 65536 + b2 * 256) there (omega arith) (omega arith) refl (omega arith))
    ∙ next-byte gpr d j (4 * j + 1 + 1 + 1) 3 (b0 * 16777216 + b1 * 65536 + b2 * 256) b3 (b0 * 16777216 + b1 * 65536 + b2 * 256 + b3) there (omega arith) (omega arith) refl (omega arith)

-- a whole register more
pub word-loaded : (m : Memory) (at d : ℕ) (gpr left new : List ℕ) (j n : ℕ) → IsRam m → BytesThere m at n → 4 * j + 4 ≤ n → length left ≡ 32
    → in_order (load_byte m at d) gpr (4 * j) ≡ Ok left → new ≡ slice_set left ((d + j) % 32) (long_at (onward at (4 * j)) m.bytes)
    → in_order (load_byte m at d) gpr (4 * (j + 1)) ≡ Ok new
word-loaded m at d gpr left new j n ram there all count before is =
    let four : Four_at m at (4 * j) = loads-four m at n (4 * j) ram there all in
    let a : ℕ = onward at (4 * j) in
    let inside : a + 4 ≤ length m.bytes = four.inside in
    let b0 : ℕ = get_or m.bytes a 0 in
    let b1 : ℕ = get_or m.bytes (a + 1) 0 in
    let b2 : ℕ = get_or m.bytes (a + 2) 0 in
    let b3 : ℕ = get_or m.bytes (a + 3) 0 in
    let l0 : List ℕ = with_string_byte left d (4 * j) b0 in
    let l1 : List ℕ = with_string_byte l0 d (4 * j + 1) b1 in
    let l2 : List ℕ = with_string_byte l1 d (4 * j + 1 + 1) b2 in
    let l3 : List ℕ = with_string_byte l2 d (4 * j + 1 + 1 + 1) b3 in
    let s0 : in_order (load_byte m at d) gpr (4 * j + 1) ≡ Ok l0 = byte-more m at d gpr left l0 (4 * j) b0 before (byte-here m at (4 * j) a refl (omega (arith, inside))) refl in
    let s1 : in_order (load_byte m at d) gpr (4 * j + 1 + 1) ≡ Ok l1 = byte-more m at d gpr l0 l1 (4 * j + 1) b1 s0 (byte-here m at (4 * j + 1) (a + 1) four.second (omega (arith, inside))) refl in
    let s2 : in_order (load_byte m at d) gpr (4 * j + 1 + 1 + 1) ≡ Ok l2 = byte-more m at d gpr l1 l2 (4 * j + 1 + 1) b2 s1 (byte-here m at (4 * j + 1 + 1) (a + 2) four.third (omega (arith, inside))) refl in
    let s3 : in_order (load_byte m at d) gpr (4 * j + 1 + 1 + 1 + 1) ≡ Ok l3 = byte-more m at d gpr l2 l3 (4 * j + 1 + 1 + 1) b3 s2 (byte-here m at (4 * j + 1 + 1 + 1) (a + 3) four.fourth (omega (arith, inside))) refl in
    let whole : l3 ≡ new = four-bytes left d j b0 b1 b2 b3 count ∙ ap (λ v. slice_set left ((d + j) % 32) v) (sym (long-is a m.bytes)) ∙ sym is in
    let same : 4 * j + 1 + 1 + 1 + 1 ≡ 4 * (j + 1) = omega arith in
    subst (λ k. in_order (load_byte m at d) gpr k ≡ Ok new) same (s3 ∙ ap (λ l. Ok l) whole)

-- four bytes that may be stored into are a word that may
byte-passes : (m : Memory) (at n k : ℕ) → BytesOpen m at n → k < n → Passes m (onward at k) 1
byte-passes m at n k may below = passes m (onward at k) 1 (omega arith) (may k below)

stores-four : (m : Memory) (at n k : ℕ) → IsRam m → BytesOpen m at n → k + 4 ≤ n → Four_at m at k
stores-four m at n k ram may all =
    four-at m at k ram.most (byte-passes m at n k may (omega (arith, all))).within (byte-passes m at n (k + 1 + 1 + 1) may (omega (arith, all))).within

word-may : (m : Memory) (a : ℕ) → IsRam m → Passes m a 1 → Passes m (a + 3) 1 → refusal m a 4 ≡ None
word-may m a ram first last =
    let within : a + 4 ≤ length m.bytes = omega (arith, last.within) in
    let low = free_from_test m a 1 ram.units (omega arith) (first.within) first.guard in
    let high = free_from_test m (a + 3) 1 ram.units (omega arith) (last.within) last.guard in
    let gate : meets_gate a 4 ≡ false = grind (arith, nat_tests, first.gate, last.gate) in
    let free : IsFree m a 4 = λ unit from to.
    elim (cases_lt (16 * unit) (a + 1)) [
      | inl before ↦ low unit from (omega (arith, before))
      | inr after ↦ high unit (omega (arith, after)) (omega (arith, to))
    ] in
    refusal-none m a 4 (omega arith) (record { within = within; gate = gate; guard = test_from_free m a 4 ram.units (omega arith) within free })

pub word-open : (m left : Memory) (at n k a : ℕ) → IsRam m → BytesOpen m at n → k + 4 ≤ n → a ≡ onward at k → OnlyFree m left → refusal left a 4 ≡ None
word-open m left at n k a ram may all place free =
    let four : Four_at m at k = stores-four m at n k ram may all in
    let last : Passes m (onward at k + 3) 1 = subst (λ x. Passes m x 1) four.fourth (byte-passes m at n (k + 1 + 1 + 1) may (omega (arith, all))) in
    ap (λ x. refusal left x 4) place ∙ free_refusals m left (onward at k) 4 free ∙ word-may m (onward at k) ram (byte-passes m at n k may (omega (arith, all))) last

-- four bytes stored side by side are a long
abbrev four_put : ℕ → ℕ → ℕ → ℕ → ℕ → ℕ → ℕ → ℕ → List ℕ → List ℕ
four_put a0 a1 a2 a3 c0 c1 c2 c3 xs = put a3 (big_bytes 1 c3) (put a2 (big_bytes 1 c2) (put a1 (big_bytes 1 c1) (put a0 (big_bytes 1 c0) xs)))

long-put : (a v : ℕ) (xs : List ℕ) → a + 4 ≤ length xs → four_put a (a + 1) (a + 2) (a + 3) (digit_of v 24 8) (digit_of v 16 8) (digit_of v 8 8) (digit_of v 0 8) xs ≡ put a (big_bytes 4 v) xs
long-put a v xs within =
    let w : List ℕ = big_bytes 1 (digit_of v 24 8) in
    let x : List ℕ = big_bytes 1 (digit_of v 16 8) in
    let y : List ℕ = big_bytes 1 (digit_of v 8 8) in
    let z : List ℕ = big_bytes 1 (digit_of v 0 8) in
    let two : a + 1 + 1 ≤ length xs = omega (arith, within) in
    let three : a + 2 + 1 ≤ length xs = omega (arith, within) in
    let four : a + 3 + 1 ≤ length xs = omega (arith, within) in
    let e0 : byte_at 0 (digit_of v 24 8) ≡ byte_at 3 v = omega arith in
    let e1 : byte_at 0 (digit_of v 16 8) ≡ byte_at 2 v = omega arith in
    let e2 : byte_at 0 (digit_of v 8 8) ≡ byte_at 1 v = omega arith in
    let e3 : byte_at 0 (digit_of v 0 8) ≡ byte_at 0 v = omega arith in
    let bytes : ((w ++ x) ++ y) ++ z ≡ big_bytes 4 v =
    ap (λ b. b ∷ byte_at 0 (digit_of v 16 8) ∷ byte_at 0 (digit_of v 8 8) ∷ byte_at 0 (digit_of v 0 8) ∷ []) e0
    ∙ ap (λ b. byte_at 3 v ∷ b ∷ byte_at 0 (digit_of v 8 8) ∷ byte_at 0 (digit_of v 0 8) ∷ []) e1
    ∙ ap (λ b. byte_at 3 v ∷ byte_at 2 v ∷ b ∷ byte_at 0 (digit_of v 0 8) ∷ []) e2
    ∙ ap (λ b. byte_at 3 v ∷ byte_at 2 v ∷ byte_at 1 v ∷ b ∷ []) e3 in
    ap (λ t. put (a + 3) z (put (a + 2) y t)) (sym (put-append a w x xs two))
    ∙ ap (λ t. put (a + 3) z t) (sym (put-append a (w ++ x) y xs three))
    ∙ sym (put-append a ((w ++ x) ++ y) z xs four)
    ∙ ap (λ l. put a l xs) bytes

byte-of-word : (gpr : List ℕ) (s j k e : ℕ) → k / 4 ≡ j → k % 4 ≡ e → string_byte gpr s k ≡ digit_of (slice_index gpr ((s + j) % 32)) (24 - 8 * e) 8
byte-of-word gpr s j k e q r =
    ap (λ i. digit_of (slice_index gpr ((s + i) % 32)) (24 - 8 * (k % 4)) 8) q ∙ ap (λ x. digit_of (slice_index gpr ((s + j) % 32)) (24 - 8 * x) 8) r

-- a whole register more
pub word-stored : (m left new : Memory) (at s : ℕ) (gpr : List ℕ) (j n : ℕ) → IsRam m → BytesOpen m at n → 4 * j + 4 ≤ n
    → Stored m at s gpr (4 * j) left → new ≡ stored left (onward at (4 * j)) Four (slice_index gpr ((s + j) % 32)) → Stored m at s gpr (4 * (j + 1)) new
word-stored m left new at s gpr j n ram may all before is =
    let k : ℕ = 4 * j in
    let a : ℕ = onward at k in
    let v : ℕ = slice_index gpr ((s + j) % 32) in
    let four : Four_at m at k = stores-four m at n k ram may all in
    let long : length left.bytes ≡ length m.bytes = before.free.long in
    let inside : a + 4 ≤ length left.bytes = omega (arith, four.inside, long) in
    let c0 : ℕ = string_byte gpr s k in
    let c1 : ℕ = string_byte gpr s (k + 1) in
    let c2 : ℕ = string_byte gpr s (k + 1 + 1) in
    let c3 : ℕ = string_byte gpr s (k + 1 + 1 + 1) in
    let m0 : Memory = stored left a One c0 in
    let m1 : Memory = stored m0 (onward at (k + 1)) One c1 in
    let m2 : Memory = stored m1 (onward at (k + 1 + 1)) One c2 in
    let m3 : Memory = stored m2 (onward at (k + 1 + 1 + 1)) One c3 in
    let s0 : Stored m at s gpr (k + 1) m0 = stored-more m left at s gpr k ram (byte-open m left at n k (onward at k) may (omega (arith, all)) refl before.free) before in
    let s1 : Stored m at s gpr (k + 1 + 1) m1 = stored-more m m0 at s gpr (k + 1) ram (byte-open m m0 at n (k + 1) (onward at (k + 1)) may (omega (arith, all)) refl s0.free) s0 in
    let s2 : Stored m at s gpr (k + 1 + 1 + 1) m2 = stored-more m m1 at s gpr (k + 1 + 1) ram (byte-open m m1 at n (k + 1 + 1) (onward at (k + 1 + 1)) may (omega (arith, all)) refl s1.free) s1 in
    let s3 : Stored m at s gpr (k + 1 + 1 + 1 + 1) m3 = stored-more m m2 at s gpr (k + 1 + 1 + 1) ram (byte-open m m2 at n (k + 1 + 1 + 1) (onward at (k + 1 + 1 + 1)) may (omega (arith, all)) refl s2.free) s2 in
    let bytes : four_put a (onward at (k + 1)) (onward at (k + 1 + 1)) (onward at (k + 1 + 1 + 1)) c0 c1 c2 c3 left.bytes ≡ put a (big_bytes 4 v) left.bytes =
    ap (λ x. four_put a x (onward at (k + 1 + 1)) (onward at (k + 1 + 1 + 1)) c0 c1 c2 c3 left.bytes) four.second
    ∙ ap (λ x. four_put a (a + 1) x (onward at (k + 1 + 1 + 1)) c0 c1 c2 c3 left.bytes) four.third
    ∙ ap (λ x. four_put a (a + 1) (a + 2) x c0 c1 c2 c3 left.bytes) four.fourth
    ∙ ap (λ c. four_put a (a + 1) (a + 2) (a + 3) c c1 c2 c3 left.bytes) (byte-of-word gpr s j k 0 (omega arith) (omega arith))
    ∙ ap (λ c. four_put a (a + 1) (a + 2) (a + 3) (digit_of v 24 8) c c2 c3 left.bytes) (byte-of-word gpr s j (k + 1) 1 (omega arith) (omega arith))
    ∙ ap (λ c. four_put a (a + 1) (a + 2) (a + 3) (digit_of v 24 8) (digit_of v 16 8) c c3 left.bytes) (byte-of-word gpr s j (k + 1 + 1) 2 (omega arith) (omega arith))
    ∙ ap (λ c. four_put a (a + 1) (a + 2) (a + 3) (digit_of v 24 8) (digit_of v 16 8) (digit_of v 8 8) c left.bytes) (byte-of-word gpr s j (k + 1 + 1 + 1) 3 (omega arith) (omega arith))
    ∙ long-put a v left.bytes inside in
    let same : k + 1 + 1 + 1 + 1 ≡ 4 * (j + 1) = omega arith in
    let whole : m3 ≡ new = ap (λ (xs : List ℕ). record left { bytes = xs }) bytes ∙ sym is in
    subst (λ i. Stored m at s gpr i new) same (subst (λ (x : Memory). Stored m at s gpr (k + 1 + 1 + 1 + 1) x) whole s3)
