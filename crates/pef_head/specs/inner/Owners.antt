-- Which library a symbol is in, found by marks.
use Rattle.std.specs.Prelude.{◌≡◌, ◌≢◌, ℕ, ◌-◌, ◌<◌, ◌≤◌, List, slice_index, Option, Some, None, unwrap_or}
use Rattle.std.specs.Int.{from_bool}
use Rattle.pef_head.specs.declared.loader.Loader.{Loader}
use Rattle.pef_head.specs.declared.marks.Marks.{Marks}
use Rattle.pef_head.specs.inner.Marks.{is_marked}
use Rattle.pef_head.specs.Places.{holds}
use Rattle.mix_bits.specs.Search.{least}
use Rattle.pef_head.specs.Owners.{owners}

-- the table has for each symbol the first of the first n libraries that has it, or 0
abbrev pub HasOwners : List ℕ → Loader → ℕ → List ℕ → Type 0
HasOwners bytes l n table = (i : ℕ) → i < l.symbols → slice_index table i ≡ unwrap_or (least (holds bytes l i) n) 0

-- each symbol is in one library
abbrev pub AreOwned : List ℕ → Loader → Type 0
AreOwned bytes l = (i : ℕ) → i < l.symbols → owners bytes l l.libraries i ≡ 1

-- the marks of the symbols from `from` on say, below the limit, which of them are in the first n libraries,
-- and none of them is in two of these
abbrev pub Marked : List ℕ → Loader → ℕ → ℕ → ℕ → Marks → Type 0
Marked bytes l n from limit marks =
    (i : ℕ) → from ≤ i → i < limit → owners bytes l n i ≡ from_bool (is_marked marks (i - from))

-- each of these symbols is in one library
abbrev pub AllOwned : List ℕ → Loader → ℕ → ℕ → Type 0
AllOwned bytes l from to = (i : ℕ) → from ≤ i → i < to → owners bytes l l.libraries i ≡ 1

-- the first symbol from `from` on that is not in one library, if there is one before `to`
abbrev pub IsFirstLost : List ℕ → Loader → ℕ → ℕ → Option ℕ → Type 0
IsFirstLost bytes l from to None = AllOwned bytes l from to
IsFirstLost bytes l from to (Some i) =
    (from ≤ i) × (i < to) × (owners bytes l l.libraries i ≢ 1) × AllOwned bytes l from i
