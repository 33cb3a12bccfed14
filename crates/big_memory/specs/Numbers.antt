-- Numbers in bytes, the most significant byte first, and longs, which have four bytes each.
use Rattle.std.specs.Prelude.{◌≡◌, ℕ, zero, suc, ◌+◌, ◌^◌, ◌<◌, List, [], ◌∷◌, length, drop, get_or, slice_index}
use Rattle.std.specs.List.{flat_map}
use Rattle.byteorder.specs.Endian.{big_number, big_bytes}

-- the number in the n bytes at an address
abbrev pub number_at : ℕ → ℕ → List ℕ → ℕ
number_at a n bytes = big_number n (drop a bytes)

-- the long at an address
unfoldable pub long_at : ℕ → List ℕ → ℕ
long_at a bytes = number_at a 4 bytes

-- the n longs from an address on
unfoldable pub longs_at : ℕ → ℕ → List ℕ → List ℕ
longs_at zero a bytes = []
longs_at (suc n) a bytes = long_at a bytes ∷ longs_at n (a + 4) bytes

-- the bytes of a list of longs
unfoldable pub bytes_of_longs : List ℕ → List ℕ
bytes_of_longs xs = flat_map (big_bytes 4) xs

-- a list of n numbers that longs hold
pub record AreLongs (n : ℕ) (xs : List ℕ) : Type 0 where
  pub count : length xs ≡ n
  pub each : (k : ℕ) → get_or xs k 0 < 2 ^ 32

-- a list of numbers that bytes hold
abbrev pub AreBytes : List ℕ → Type 0
AreBytes xs = (k : ℕ) → slice_index xs k < 256
