-- Laws of a list of bytes with a piece replaced.
use Rattle.std.specs.Prelude.{◌≡◌, ◌⊎◌, ℕ, ◌+◌, ◌-◌, ◌<◌, ◌≤◌, nat_le, nat_lt, ◌&&◌, if◌then◌else◌, List, [], ◌++◌, length, drop, replicate, get_or}
use Rattle.big_memory.specs.Lists.{part, put}

-- a replaced piece keeps the length, and no piece changes nothing
abbrev pub PutKeepsLength : Type 0
PutKeepsLength = (at : ℕ) (ys xs : List ℕ) → at + length ys ≤ length xs → length (put at ys xs) ≡ length xs

abbrev pub PutNothing : Type 0
PutNothing = (at : ℕ) (xs : List ℕ) → put at [] xs ≡ xs

-- a piece is read where it was put, and so is a part of it
abbrev pub PutReadsBack : Type 0
PutReadsBack = (at n : ℕ) (ys xs : List ℕ) → length ys ≡ n → at + n ≤ length xs → part at n (put at ys xs) ≡ ys

abbrev pub PutReadsInside : Type 0
PutReadsInside = (at k n : ℕ) (ys xs : List ℕ) → k + n ≤ length ys → at + length ys ≤ length xs → part (at + k) n (put at ys xs) ≡ part k n ys

-- what lies beside it stays
abbrev pub PutReadsBeside : Type 0
PutReadsBeside = (at n to : ℕ) (ys xs : List ℕ) → to + length ys ≤ length xs → (at + n ≤ to) ⊎ (to + length ys ≤ at) → part at n (put to ys xs) ≡ part at n xs

-- the same of single elements
abbrev pub PutHoldsInside : Type 0
PutHoldsInside = (at k : ℕ) (ys xs : List ℕ) (d : ℕ) → at + length ys ≤ length xs → at ≤ k → k < at + length ys → get_or (put at ys xs) k d ≡ get_or ys (k - at) d

abbrev pub PutKeepsBeside : Type 0
PutKeepsBeside = (at k : ℕ) (ys xs : List ℕ) (d : ℕ) → at + length ys ≤ length xs → (k < at) ⊎ (at + length ys ≤ k) → get_or (put at ys xs) k d ≡ get_or xs k d

-- the piece that is there already changes nothing
abbrev pub PutSame : Type 0
PutSame = (at n : ℕ) (xs : List ℕ) → at + n ≤ length xs → put at (part at n xs) xs ≡ xs

-- of two pieces at one place the later one stays
abbrev pub PutOver : Type 0
PutOver = (at : ℕ) (ys zs xs : List ℕ) → length ys ≡ length zs → at + length ys ≤ length xs → put at zs (put at ys xs) ≡ put at zs xs

-- a piece put inside of another is put into that one
abbrev pub PutInside : Type 0
PutInside = (at k : ℕ) (zs ys xs : List ℕ) → k + length zs ≤ length ys → at + length ys ≤ length xs → put (at + k) zs (put at ys xs) ≡ put at (put k zs ys) xs

-- two pieces apart go in either order, and two side by side are one
abbrev pub PutApart : Type 0
PutApart = (at to : ℕ) (ys zs xs : List ℕ) → at + length ys ≤ to → to + length zs ≤ length xs → put to zs (put at ys xs) ≡ put at ys (put to zs xs)

abbrev pub PutJoins : Type 0
PutJoins = (at : ℕ) (ys zs xs : List ℕ) → at + length ys + length zs ≤ length xs → put at (ys ++ zs) xs ≡ put (at + length ys) zs (put at ys xs)

-- from a piece's place on it comes first, and then what stood behind it
abbrev pub PutFrom : Type 0
PutFrom = (at : ℕ) (ys xs : List ℕ) → at ≤ length xs → drop at (put at ys xs) ≡ ys ++ drop (at + length ys) xs

-- the elements, after a run of one element is put
abbrev pub PutRun : Type 0
PutRun =
    (at n k y d : ℕ) (xs : List ℕ) → at + n ≤ length xs
    → get_or (put at (replicate n y) xs) k d ≡ (if nat_le at k && nat_lt k (at + n) then y else get_or xs k d)
