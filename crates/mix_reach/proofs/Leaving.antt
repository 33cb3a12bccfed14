-- What a store, and several stores one after another, leave of memory.
use Rattle.std.proofs.Common.{◌≡◌, ◌⊎◌, ℕ, suc, ◌+◌, ◌*◌, ◌<◌, ◌≤◌, List, [], ◌∷◌, length, Option, None, Some, Result, Ok, Err, inl, inr, arith, sym, ◌∙◌, subst, refl}
use Rattle.std.proofs.lemmas.Bool.{cases_lt}
use Rattle.byteorder.specs.Endian.{big_bytes}
use Rattle.mix_bits.specs.declared.size.Size.{Size}
use Rattle.mix_bits.specs.declared.size.Size.TheVariants.{Zero, One, Two, Four}
use Rattle.mix_bits.specs.Sizes.{bytes_of}
use Rattle.mix_bits.specs.Addresses.{onward}
use Rattle.mix_bits.specs.Results.{◌>>=◌}
use Rattle.big_memory.specs.declared.refusals.Access.{Access}
use Rattle.big_memory.specs.Lists.{put}
use Rattle.big_memory.specs.Memory.{Memory, refusal, stored}
use Rattle.big_memory.specs.Stores.{stored_longs, stored_unless, stored_value}
use Rattle.big_memory.specs.laws.Laws.{Passes}
use Rattle.big_memory.proofs.Lists.{get_or-put_outside, length-put, put-nil}
use Rattle.big_memory.proofs.Guarded.{passes}
use Rattle.mix_reach.specs.declared.reach.Reach.{Reach}
use Rattle.mix_reach.specs.laws.Ranges.{Beside, range}

-- memory that is left as it was, and a change beside a smaller range
pub stay : (w : Reach) (m : List ℕ) → Beside w m m
stay w m = record { long = refl; same = λ k out. refl }

wider-out : (w v : Reach) (k : ℕ) → w.low ≤ v.low → v.high ≤ w.high → (k < w.low) ⊎ (w.high ≤ k) → (k < v.low) ⊎ (v.high ≤ k)
wider-out w v k low high (inl before) = inl (omega (arith, low, before))
wider-out w v k low high (inr after) = inr (omega (arith, high, after))

pub wider : (w v : Reach) (m n : List ℕ) → w.low ≤ v.low → v.high ≤ w.high → Beside v m n → Beside w m n
wider w v m n low high beside = record { long = beside.long; same = λ k out. beside.same k (wider-out w v k low high out) }

-- a range of no bytes leaves all as it was
outside-none : (a k : ℕ) → (k < a) ⊎ (a + 0 ≤ k)
outside-none a k = elim (cases_lt k a) [ inl below ↦ inl below | inr above ↦ inr (omega (arith, above)) ]

pub anywhere : (w : Reach) (a : ℕ) (m n : List ℕ) → Beside (range a 0) m n → Beside w m n
anywhere w a m n none = record { long = none.long; same = λ k out. none.same k (outside-none a k) }

-- one change after another
pub along : (w : Reach) (l m n : List ℕ) → Beside w l m → Beside w m n → Beside w l n
along w l m n first then = record { long = then.long ∙ first.long; same = λ k out. then.same k out ∙ first.same k out }

pub put-beside : (a : ℕ) (ys xs : List ℕ) → a + length ys ≤ length xs → Beside (range a (length ys)) xs (put a ys xs)
put-beside a ys xs within = record { long = length-put a ys xs within; same = λ k out. get_or-put_outside a k ys xs 0 within out }

size-bytes : (s : Size) (v : ℕ) → length (big_bytes (bytes_of s) v) ≡ bytes_of s
size-bytes Zero v = refl
size-bytes One v = refl
size-bytes Two v = refl
size-bytes Four v = refl

pub few-bytes : (s : Size) → bytes_of s ≤ 4
few-bytes Zero = omega arith
few-bytes One = omega arith
few-bytes Two = omega arith
few-bytes Four = omega arith

-- a store that is not refused lies in memory
pub record Stored (m : Memory) (a : ℕ) (s : Size) (n : Memory) : Type 0 where
  pub within : (0 < bytes_of s) → a + bytes_of s ≤ length m.bytes
  pub beside : Beside (range a 4) m.bytes n.bytes
  pub exact : Beside (range a (bytes_of s)) m.bytes n.bytes

abbrev pub Stores : Memory → ℕ → Size → Result Memory Access → Type 0
Stores m a s (Ok n) = Stored m a s n
Stores m a s (Err e) = Unit {0}

put-small : (m : Memory) (a : ℕ) (s : Size) (v : ℕ) (most : ℕ) → bytes_of s ≤ most → a + bytes_of s ≤ length m.bytes → Beside (range a most) m.bytes (put a (big_bytes (bytes_of s) v) m.bytes)
put-small m a s v most few within =
    let long = size-bytes s v in
    wider (range a most) (range a (length (big_bytes (bytes_of s) v))) m.bytes (put a (big_bytes (bytes_of s) v) m.bytes) (omega arith) (omega (arith, long, few))
    (put-beside a (big_bytes (bytes_of s) v) m.bytes (omega (arith, long, within)))

put-some : (m : Memory) (a : ℕ) (s : Size) (v : ℕ) → 0 < bytes_of s → refusal m a (bytes_of s) ≡ None → Stored m a s (stored m a s v)
put-some m a s v some none =
    let all : Passes m a (bytes_of s) = passes m a (bytes_of s) some none in
    record { within = λ some. all.within; beside = put-small m a s v 4 (few-bytes s) all.within; exact = put-small m a s v (bytes_of s) (omega arith) all.within }

put-any : (m : Memory) (a : ℕ) (s : Size) (v : ℕ) → refusal m a (bytes_of s) ≡ None → Stored m a s (stored m a s v)
put-any m a Zero v none =
    record {
      within = λ some. absurd (omega (arith, some));
      beside = subst (λ (n : List ℕ). Beside (range a 4) m.bytes n) (sym (put-nil a m.bytes)) (stay (range a 4) m.bytes);
      exact = subst (λ (n : List ℕ). Beside (range a 0) m.bytes n) (sym (put-nil a m.bytes)) (stay (range a 0) m.bytes);
    }
put-any m a One v none = put-some m a One v (omega arith) none
put-any m a Two v none = put-some m a Two v (omega arith) none
put-any m a Four v none = put-some m a Four v (omega arith) none

by-refusal : (m : Memory) (a : ℕ) (s : Size) (v : ℕ) (reason : Option Access) → refusal m a (bytes_of s) ≡ reason → Stores m a s (stored_unless reason (stored m a s v))
by-refusal m a s v (Some e) is = tt
by-refusal m a s v None is = put-any m a s v is

pub stores : (m : Memory) (a : ℕ) (s : Size) (v : ℕ) → Stores m a s (stored_value m a s v)
unfolding stored_value
stores m a s v = by-refusal m a s v (refusal m a (bytes_of s)) refl

-- memory that is so long that no address in it wraps
pub record IsShort (m : Memory) : Type 0 where
  pub most : length m.bytes ≤ 16777216

pub short-kept : (w : Reach) (m n : Memory) → IsShort m → Beside w m.bytes n.bytes → IsShort n
short-kept w m n short beside = record { most = let long = beside.long in let most = short.most in omega (arith, long, most) }

abbrev pub Leaves : {E : Type 0} → Reach → Memory → Result Memory E → Type 0
Leaves w m (Ok n) = Beside w m.bytes n.bytes
Leaves w m (Err e) = Unit {0}

-- longs one after another
next-long : (a len : ℕ) → a + 4 ≤ len → len ≤ 16777216 → onward a 4 ≡ a + 4
next-long a len within most = omega (arith, within, most)

longs-from : (m : Memory) (a v : ℕ) (vs : List ℕ) (first : Result Memory Access) → IsShort m → Stores m a Four first
    → ((n : Memory) → IsShort n → Leaves (range (onward a 4) (4 * length vs)) n (stored_longs n (onward a 4) vs))
    → Leaves (range a (4 * suc (length vs))) m (first >>= λ n. stored_longs n (onward a 4) vs)
longs-from m a v vs (Err e) short did rest = tt
longs-from m a v vs (Ok n) short did rest = ends (stored_longs n (onward a 4) vs) (rest n (short-kept (range a 4) m n short did.beside))
  where
    next : onward a 4 ≡ a + 4
    next = next-long a (length m.bytes) (did.within (omega arith)) short.most

    ends : (last : Result Memory Access) → Leaves (range (onward a 4) (4 * length vs)) n last → Leaves (range a (4 * suc (length vs))) m last
    ends (Err e) left = tt
    ends (Ok t) left =
        along (range a (4 * suc (length vs))) m.bytes n.bytes t.bytes
        (wider (range a (4 * suc (length vs))) (range a 4) m.bytes n.bytes (omega arith) (omega arith) did.beside)
        (wider (range a (4 * suc (length vs))) (range (onward a 4) (4 * length vs)) n.bytes t.bytes (omega (arith, next)) (omega (arith, next)) left)

pub longs-leave : (m : Memory) (a : ℕ) (vs : List ℕ) → IsShort m → Leaves (range a (4 * length vs)) m (stored_longs m a vs)
unfolding stored_longs
longs-leave m a [] short = stay (range a 0) m.bytes
longs-leave m a (v ∷ vs) short = longs-from m a v vs (stored_value m a Four v) short (stores m a Four v) (λ n kept. longs-leave n (onward a 4) vs kept)
