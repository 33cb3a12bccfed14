-- Numbers that are stored downwards stand upwards, each where it was stored.
use Rattle.std.proofs.Common.{◌≡◌, ℕ, suc, ◌+◌, ◌*◌, ◌^◌, ◌<◌, ◌≤◌, ◌∙◌, Bool, List, [], ◌∷◌, length, Option, Some, None, Result, Ok, Err, inr, refl, sym, ap, subst, arith, add-zero}
use Rattle.std.specs.Prelude.{◌==◌, ◌||◌, nat_le, if◌then◌else◌}
use Rattle.mix_bits.specs.declared.size.Size.{Size}
use Rattle.mix_bits.specs.Sizes.{bytes_of, truncated}
use Rattle.mix_bits.specs.Results.{◌>>=◌}
use Rattle.mix_bits.proofs.Sizes.{bytes-few}
use Rattle.byteorder.specs.Endian.{big_bytes}
use Rattle.big_memory.specs.declared.refusals.Access.{Access}
use Rattle.big_memory.specs.declared.refusals.Access.TheVariants.{Outside}
use Rattle.big_memory.specs.Lists.{put}
use Rattle.big_memory.specs.Memory.{Memory, in_memory, loaded, refusal, stored}
use Rattle.big_memory.specs.Numbers.{number_at}
use Rattle.big_memory.specs.Stores.{stored_unless, stored_value}
use Rattle.big_memory.proofs.Guarded.{loads_back, passes}
use Rattle.big_memory.proofs.Lists.{length-put, part-put_apart}
use Rattle.big_memory.proofs.Numbers.{number_in_part}
use Rattle.big_memory.proofs.Longs.{size-bytes, size-there}
use Rattle.m68_ea.specs.Accesses.{or_fault}
use Rattle.mix_bits.specs.Addresses.{backward}
use Rattle.m68_effects.specs.Multiple.{stored_down}

-- a store leaves what stands above it
number-beside : (a x n : ℕ) (ys bytes : List ℕ) → length ys ≡ n → a + n ≤ length bytes → a + n ≤ x → number_at x n (put a ys bytes) ≡ number_at x n bytes
number-beside a x n ys bytes count within above =
    let fits : a + length ys ≤ length bytes = omega arith in
    let part-of = λ (bs : List ℕ). ap (λ y. number_at y n bs) (sym (add-zero x)) ∙ sym (number_in_part x n 0 n bs (omega arith)) in
    part-of (put a ys bytes) ∙ ap (number_at 0 n) (part-put_apart x n a ys bytes fits (inr (omega arith))) ∙ sym (part-of bytes)

abbrev answer : ℕ → Bool → ℕ → Result ℕ Access
answer x inside v = if inside then Ok v else Err (Outside x)

beside : (m : Memory) (a x : ℕ) (s : Size) (v : ℕ) → 0 < bytes_of s → refusal m a (bytes_of s) ≡ None → a + bytes_of s ≤ x → loaded (stored m a s v) x s ≡ loaded m x s
beside m a x s v some none above =
    let within : a + bytes_of s ≤ length m.bytes = (passes m a (bytes_of s) some none).within in
    let fits : a + length (big_bytes (bytes_of s) v) ≤ length m.bytes = rw (size-bytes s v) within in
    let long : length (put a (big_bytes (bytes_of s) v) m.bytes) ≡ length m.bytes = length-put a (big_bytes (bytes_of s) v) m.bytes fits in
    ap (λ n. answer x ((bytes_of s == 0) || nat_le (x + bytes_of s) n) (number_at x (bytes_of s) (put a (big_bytes (bytes_of s) v) m.bytes))) long
    ∙ ap (answer x (in_memory m x (bytes_of s))) (number-beside a x (bytes_of s) (big_bytes (bytes_of s) v) m.bytes (size-bytes s v) within above)

-- numbers from an address on, one after the other
abbrev pub Stand : Memory → Size → ℕ → List ℕ → Type 0
Stand m s a [] = Unit {0}
Stand m s a (v ∷ vs) = (loaded m a s ≡ Ok (truncated v s)) × Stand m s (a + bytes_of s) vs

still-stand : (vs : List ℕ) (m : Memory) (a x : ℕ) (s : Size) (v : ℕ) → 0 < bytes_of s → refusal m a (bytes_of s) ≡ None → a + bytes_of s ≤ x → Stand m s x vs → Stand (stored m a s v) s x vs
still-stand [] m a x s v some none above stand = tt
still-stand (w ∷ vs) m a x s v some none above stand =
    (beside m a x s v some none above ∙ stand.0, still-stand vs m a (x + bytes_of s) s v some none (omega arith) stand.1)

-- one store of several
abbrev pub IsStored : ℕ → Memory → Memory → ℕ → Size → ℕ → List ℕ → Type 0
IsStored pc m n b s v vs = (refusal m b (bytes_of s) ≡ None) × (stored_down pc (stored m b s v) b s vs ≡ Ok n)

one-of : (reason : Option Access) (pc : ℕ) (l n : Memory) (b : ℕ) (s : Size) (vs : List ℕ)
    → (or_fault pc (stored_unless reason l) >>= λ k. stored_down pc k b s vs) ≡ Ok n → (reason ≡ None) × (stored_down pc l b s vs ≡ Ok n)
one-of None pc l n b s vs is = (refl, is)
one-of (Some e) pc l n b s vs is = absurd (cc)

one-down : (pc : ℕ) (m n : Memory) (a : ℕ) (s : Size) (v : ℕ) (vs : List ℕ) → stored_down pc m a s (v ∷ vs) ≡ Ok n → IsStored pc m n (backward a (bytes_of s)) s v vs
unfolding stored_down stored_value
one-down pc m n a s v vs is = one-of (refusal m (backward a (bytes_of s)) (bytes_of s)) pc (stored m (backward a (bytes_of s)) s v) n (backward a (bytes_of s)) s vs is

none-down : (pc : ℕ) (m n : Memory) (a : ℕ) (s : Size) → stored_down pc m a s [] ≡ Ok n → m ≡ n
unfolding stored_down
none-down pc m n a s is = cc

-- no address wraps in memory
no-wrap : (a n b long : ℕ) → 0 < n → n ≤ 4 → a < 2 ^ 32 → long ≤ 2 ^ 24 → b ≡ backward a n → b + n ≤ long → b + n ≡ a
no-wrap a n b long some few fits small is within = omega arith

-- the numbers of one list before those of another, each before the one before
abbrev pub onto : List ℕ → List ℕ → List ℕ
onto [] others = others
onto (v ∷ vs) others = onto vs (v ∷ others)

-- so many numbers of a size stand below an address
pub record IsSaved (n : Memory) (s : Size) (a count : ℕ) (vs : List ℕ) : Type 0 where
  pub from : ℕ
  pub span : from + bytes_of s * count ≡ a
  pub stand : Stand n s from vs

one-more : (from n count a b : ℕ) → from + n * count ≡ b → b + n ≡ a → from + n * suc count ≡ a
one-more from n count a b is next = let more : n * suc count ≡ n + n * count = grind arith in omega (arith, is, next, more)

pub all_saved : (vs others : List ℕ) (pc : ℕ) (m n : Memory) (a : ℕ) (s : Size) → 0 < bytes_of s → length m.bytes ≤ 2 ^ 24 → a < 2 ^ 32
    → stored_down pc m a s vs ≡ Ok n → Stand m s a others → IsSaved n s a (length vs) (onto vs others)
all_saved [] others pc m n a s some small fits is stand =
    let none : a + bytes_of s * 0 ≡ a = grind arith in
    record { from = a; span = none; stand = subst (λ k. Stand k s a others) (none-down pc m n a s is) stand }
all_saved (v ∷ vs) others pc m n a s some small fits is stand =
    let b : ℕ = backward a (bytes_of s) in
    let one = one-down pc m n a s v vs is in
    let within : b + bytes_of s ≤ length m.bytes = (passes m b (bytes_of s) some one.0).within in
    let next : b + bytes_of s ≡ a = no-wrap a (bytes_of s) b (length m.bytes) some (bytes-few s) fits small refl within in
    let long : length (put b (big_bytes (bytes_of s) v) m.bytes) ≡ length m.bytes = length-put b (big_bytes (bytes_of s) v) m.bytes (rw (size-bytes s v) within) in
    let above : Stand (stored m b s v) s (b + bytes_of s) others = subst (λ x. Stand (stored m b s v) s x others) (sym next) (still-stand others m b a s v some one.0 (omega arith) stand) in
    let rest = all_saved vs (v ∷ others) pc (stored m b s v) n b s some (rw long small) (omega arith) one.1 (loads_back m b s v (size-there m b s one.0), above) in
    record { from = rest.from; span = one-more rest.from (bytes_of s) (length vs) a b rest.span next; stand = rest.stand }

-- what is left as it was
pub still_saved : (vs : List ℕ) (n k : Memory) (s : Size) (from : ℕ) → ((x : ℕ) → from ≤ x → x + bytes_of s ≤ from + bytes_of s * length vs → loaded k x s ≡ loaded n x s)
    → Stand n s from vs → Stand k s from vs
still_saved [] n k s from left stand = tt
still_saved (v ∷ vs) n k s from left stand =
    let more : bytes_of s * suc (length vs) ≡ bytes_of s + bytes_of s * length vs = grind arith in
    (left from (omega arith) (omega (arith, more)) ∙ stand.0, still_saved vs n k s (from + bytes_of s) (λ x low high. left x (omega arith) (omega (arith, more, high))) stand.1)
