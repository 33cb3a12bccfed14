-- Accesses in order, of which one is refused or none.
use Rattle.std.proofs.Common.{◌≡◌, inl, inr, ℕ, zero, suc, ◌+◌, ◌*◌, ◌<◌, List, None, Some, Result, Ok, Err, arith, sym, ◌∙◌, ap, subst, refl}
use Rattle.std.proofs.lemmas.Bool.{cases_lt}
use Rattle.std.specs.Prelude.{slice_set}
use Rattle.mix_bits.specs.Addresses.{onward}
use Rattle.mix_bits.specs.Results.{◌>>=◌}
use Rattle.mix_bits.specs.declared.size.Size.TheVariants.{One, Four}
use Rattle.byteorder.specs.Endian.{big_bytes}
use Rattle.big_memory.specs.declared.refusals.Access.{Access}
use Rattle.big_memory.specs.Memory.{Memory, IsRam, loaded, refusal, stored}
use Rattle.big_memory.specs.StoresClauses.{OnlyFree}
use Rattle.big_memory.specs.Stores.{stored_value, stored_unless}
use Rattle.big_memory.proofs.Free.{free_joins, free_ram, free_refusals, nothing_free, stores_free}
use Rattle.ppc_integer.specs.Strings.{in_order, load_byte, load_word, store_byte, string_byte, with_string_byte}
use Rattle.ppc_core.specs.inner.Tested.{BytesOpen, BytesThere, WordsThere}

pub order-zero : {A : Type 0} (access : A → ℕ → Result A Access) (start : A) → in_order access start 0 ≡ Ok start
unfolding in_order
order-zero access start = refl

-- one access more
order-suc : {A : Type 0} (access : A → ℕ → Result A Access) (start left : A) (k : ℕ) → in_order access start k ≡ Ok left → in_order access start (suc k) ≡ access left k
unfolding in_order
order-suc access start left k is = ap (λ before. before >>= λ a. access a k) is

pub order-next : {A : Type 0} (access : A → ℕ → Result A Access) (start left : A) (k : ℕ) → in_order access start k ≡ Ok left → in_order access start (k + 1) ≡ access left k
order-next access start left k is =
    let same : k + 1 ≡ suc k = omega arith in
    ap (λ n. in_order access start n) same ∙ order-suc access start left k is

-- what follows on a refusal does not matter
pub order-refused : {A : Type 0} (access : A → ℕ → Result A Access) (start left : A) (e : Access) (k n : ℕ) →
    k < n → in_order access start k ≡ Ok left → access left k ≡ Err e → in_order access start n ≡ Err e
unfolding in_order
order-refused access start left e k zero below is refused = absurd (omega (arith, below))
order-refused access start left e k (suc n) below is refused =
    elim (cases_lt k n) [
      | inl before ↦ ap (λ r. r >>= λ a. access a n) (order-refused access start left e k n before is refused)
      | inr after ↦
          let same : k ≡ n = omega (arith, below) in
          subst (λ j. (in_order access start j >>= λ a. access a j) ≡ Err e) same (ap (λ r. r >>= λ a. access a k) is ∙ refused)
    ]

-- words that can be loaded are
pub words-loaded : (m : Memory) (at d : ℕ) (gpr : List ℕ) (n : ℕ) → WordsThere m at n → (all : List ℕ) × (in_order (load_word m at d) gpr n ≡ Ok all)
words-loaded m at d gpr zero there = (gpr, order-zero (load_word m at d) gpr)
words-loaded m at d gpr (suc k) there =
    let before : (all : List ℕ) × (in_order (load_word m at d) gpr k ≡ Ok all) = words-loaded m at d gpr k (λ j below. there j (omega (arith, below))) in
    let here : (v : ℕ) × (loaded m (onward at (4 * k)) Four ≡ Ok v) = there k (omega arith) in
    let done : List ℕ = slice_set before.0 (d + k) here.0 in
    (done, order-suc (load_word m at d) gpr before.0 k before.1 ∙ ap (λ r. r >>= λ v. Ok (slice_set before.0 (d + k) v)) here.1)

pub words-refused : (m : Memory) (at d : ℕ) (gpr : List ℕ) (n : ℕ) (e : Access) → (k : ℕ) × (k < n) × (WordsThere m at k) × (loaded m (onward at (4 * k)) Four ≡ Err e) → in_order (load_word m at d) gpr n ≡ Err e
words-refused m at d gpr n e first =
    let before : (all : List ℕ) × (in_order (load_word m at d) gpr first.0 ≡ Ok all) = words-loaded m at d gpr first.0 first.2 in
    order-refused (load_word m at d) gpr before.0 e first.0 n first.1 before.1 (ap (λ r. r >>= λ v. Ok (slice_set before.0 (d + first.0) v)) first.3)

pub bytes-loaded : (m : Memory) (at d : ℕ) (gpr : List ℕ) (n : ℕ) → BytesThere m at n → (all : List ℕ) × (in_order (load_byte m at d) gpr n ≡ Ok all)
bytes-loaded m at d gpr zero there = (gpr, order-zero (load_byte m at d) gpr)
bytes-loaded m at d gpr (suc k) there =
    let before : (all : List ℕ) × (in_order (load_byte m at d) gpr k ≡ Ok all) = bytes-loaded m at d gpr k (λ j below. there j (omega (arith, below))) in
    let here : (v : ℕ) × (loaded m (onward at k) One ≡ Ok v) = there k (omega arith) in
    let done : List ℕ = with_string_byte before.0 d k here.0 in
    (done, order-suc (load_byte m at d) gpr before.0 k before.1 ∙ ap (λ r. r >>= λ byte. Ok (with_string_byte before.0 d k byte)) here.1)

pub bytes-refused : (m : Memory) (at d : ℕ) (gpr : List ℕ) (n : ℕ) (e : Access) → (k : ℕ) × (k < n) × (BytesThere m at k) × (loaded m (onward at k) One ≡ Err e) → in_order (load_byte m at d) gpr n ≡ Err e
bytes-refused m at d gpr n e first =
    let before : (all : List ℕ) × (in_order (load_byte m at d) gpr first.0 ≡ Ok all) = bytes-loaded m at d gpr first.0 first.2 in
    order-refused (load_byte m at d) gpr before.0 e first.0 n first.1 before.1 (ap (λ r. r >>= λ byte. Ok (with_string_byte before.0 d first.0 byte)) first.3)

-- what bytes stored in order leave
pub record Stored (m : Memory) (at s : ℕ) (gpr : List ℕ) (n : ℕ) (left : Memory) : Type 0 where
  pub is : in_order (store_byte gpr s at) m n ≡ Ok left
  pub free : OnlyFree m left

pub stored-none : (m : Memory) (at s : ℕ) (gpr : List ℕ) → Stored m at s gpr 0 m
stored-none m at s gpr = record { is = order-zero (store_byte gpr s at) m; free = nothing_free m }

value-done : (m : Memory) (a v : ℕ) → refusal m a 1 ≡ None → stored_value m a One v ≡ Ok (stored m a One v)
unfolding stored_value
value-done m a v none = ap (λ reason. stored_unless reason (stored m a One v)) none

value-refused : (m : Memory) (a v : ℕ) (e : Access) → refusal m a 1 ≡ Some e → stored_value m a One v ≡ Err e
unfolding stored_value
value-refused m a v e refused = ap (λ reason. stored_unless reason (stored m a One v)) refused

-- a byte of an open range, after bytes were stored there
pub byte-open : (m left : Memory) (at n k a : ℕ) → BytesOpen m at n → k < n → a ≡ onward at k → OnlyFree m left → refusal left a 1 ≡ None
byte-open m left at n k a may below place free = ap (λ x. refusal left x 1) place ∙ free_refusals m left (onward at k) 1 free ∙ may k below

-- a byte more
pub stored-more : (m left : Memory) (at s : ℕ) (gpr : List ℕ) (k : ℕ) → IsRam m → refusal left (onward at k) 1 ≡ None
    → Stored m at s gpr k left → Stored m at s gpr (k + 1) (stored left (onward at k) One (string_byte gpr s k))
stored-more m left at s gpr k ram none before =
    let byte : ℕ = string_byte gpr s k in
    let new : Memory = stored left (onward at k) One byte in
    record {
      is = order-next (store_byte gpr s at) m left k before.is ∙ value-done left (onward at k) byte none;
      free = free_joins m left new before.free (stores_free left (onward at k) 1 (big_bytes 1 byte) refl (free_ram m left ram before.free) none);
    }

pub bytes-stored : (m : Memory) (at s : ℕ) (gpr : List ℕ) (n : ℕ) → IsRam m → BytesOpen m at n → (left : Memory) × Stored m at s gpr n left
bytes-stored m at s gpr zero ram may = (m, stored-none m at s gpr)
bytes-stored m at s gpr (suc k) ram may =
    let before : (left : Memory) × Stored m at s gpr k left = bytes-stored m at s gpr k ram (λ j below. may j (omega (arith, below))) in
    let none : refusal before.0 (onward at k) 1 ≡ None = byte-open m before.0 at (suc k) k (onward at k) may (omega arith) refl before.1.free in
    let same : k + 1 ≡ suc k = omega arith in
    let more : Memory = stored before.0 (onward at k) One (string_byte gpr s k) in
    (more, subst (λ n. Stored m at s gpr n more) same (stored-more m before.0 at s gpr k ram none before.1))

pub store-refused : (m : Memory) (at s : ℕ) (gpr : List ℕ) (n : ℕ) (e : Access) → IsRam m → (k : ℕ) × (k < n) × (BytesOpen m at k) × (refusal m (onward at k) 1 ≡ Some e) → in_order (store_byte gpr s at) m n ≡ Err e
store-refused m at s gpr n e ram first =
    let before : (left : Memory) × Stored m at s gpr first.0 left = bytes-stored m at s gpr first.0 ram first.2 in
    let here : refusal before.0 (onward at first.0) 1 ≡ Some e = free_refusals m before.0 (onward at first.0) 1 before.1.free ∙ first.3 in
    order-refused (store_byte gpr s at) m before.0 e first.0 n first.1 before.1.is (value-refused before.0 (onward at first.0) (string_byte gpr s first.0) e here)

-- a word, or a byte, more
pub word-more : (m : Memory) (at d : ℕ) (gpr left new : List ℕ) (k v : ℕ) → in_order (load_word m at d) gpr k ≡ Ok left → loaded m (onward at (4 * k)) Four ≡ Ok v → new ≡ slice_set left (d + k) v → in_order (load_word m at d) gpr (k + 1) ≡ Ok new
word-more m at d gpr left new k v before here is =
    order-next (load_word m at d) gpr left k before ∙ ap (λ r. r >>= λ x. Ok (slice_set left (d + k) x)) here ∙ ap (λ all. Ok all) (sym is)

pub byte-more : (m : Memory) (at d : ℕ) (gpr left new : List ℕ) (k v : ℕ) → in_order (load_byte m at d) gpr k ≡ Ok left → loaded m (onward at k) One ≡ Ok v → new ≡ with_string_byte left d k v → in_order (load_byte m at d) gpr (k + 1) ≡ Ok new
byte-more m at d gpr left new k v before here is =
    order-next (load_byte m at d) gpr left k before ∙ ap (λ r. r >>= λ x. Ok (with_string_byte left d k x)) here ∙ ap (λ all. Ok all) (sym is)
