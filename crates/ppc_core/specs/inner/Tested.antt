-- What a test of several accesses tells: each of them can be done, or the first that can't.
use Rattle.std.specs.Prelude.{◌≡◌, ℕ, ◌*◌, ◌<◌, Some, None, Result, Ok, Err}
use Rattle.mix_bits.specs.Addresses.{onward}
use Rattle.mix_bits.specs.declared.size.Size.TheVariants.{One, Four}
use Rattle.big_memory.specs.declared.refusals.Access.{Access}
use Rattle.big_memory.specs.Memory.{Memory, loaded, refusal}

-- each of the first n words at an address can be loaded
abbrev pub WordsThere : Memory → ℕ → ℕ → Type 0
WordsThere m at n = (k : ℕ) → k < n → (v : ℕ) × (loaded m (onward at (4 * k)) Four ≡ Ok v)

abbrev pub BytesThere : Memory → ℕ → ℕ → Type 0
BytesThere m at n = (k : ℕ) → k < n → (v : ℕ) × (loaded m (onward at k) One ≡ Ok v)

-- each of the first n bytes at an address may be stored into
abbrev pub BytesOpen : Memory → ℕ → ℕ → Type 0
BytesOpen m at n = (k : ℕ) → k < n → refusal m (onward at k) 1 ≡ None

abbrev pub WordsTested : Memory → ℕ → ℕ → Result (Unit {0}) Access → Type 0
WordsTested m at n (Ok done) = WordsThere m at n
WordsTested m at n (Err e) = (k : ℕ) × (k < n) × (WordsThere m at k) × (loaded m (onward at (4 * k)) Four ≡ Err e)

abbrev pub BytesTested : Memory → ℕ → ℕ → Result (Unit {0}) Access → Type 0
BytesTested m at n (Ok done) = BytesThere m at n
BytesTested m at n (Err e) = (k : ℕ) × (k < n) × (BytesThere m at k) × (loaded m (onward at k) One ≡ Err e)

abbrev pub OpenTested : Memory → ℕ → ℕ → Result (Unit {0}) Access → Type 0
OpenTested m at n (Ok done) = BytesOpen m at n
OpenTested m at n (Err e) = (k : ℕ) × (k < n) × (BytesOpen m at k) × (refusal m (onward at k) 1 ≡ Some e)
