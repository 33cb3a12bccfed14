-- The ids of a type in ascending order, as each leads to the next.
use Rattle.std.specs.Prelude.{ℕ, ℤ, ◌<ℤ◌, ◌≤ℤ◌, ◌+ℤ◌, pos, List, [], ◌∷◌, All, Contains, Some, None, IsSome}
use Rattle.rsrc_fork.specs.Resources.{Resource, bytes_of, named}
use Rattle.rsrc_fork.specs.ResourcesClauses.{IsNextId}

-- the ids of a type above an id, each the next one of the one before
abbrev pub AreIds : List Resource → ℕ → ℤ → List ℤ → Type 0
AreIds resources kind after [] = IsNextId resources kind after None
AreIds resources kind after (id ∷ ids) = IsNextId resources kind after (Some id) × AreIds resources kind id ids

abbrev pub Ascend : ℤ → List ℤ → Type 0
Ascend after [] = Unit {0}
Ascend after (id ∷ ids) = (after <ℤ id) × Ascend id ids

abbrev pub HasId : List Resource → ℕ → ℤ → Type 0
HasId resources kind id = IsSome (bytes_of resources (named kind id))

-- they ascend, and are those of the type that are above the id
pub record AreAllIds (resources : List Resource) (kind : ℕ) (after : ℤ) (ids : List ℤ) : Type 0 where
  pub ascend : Ascend after ids
  pub there : All (HasId resources kind) ids
  pub complete : (id : ℤ) → after <ℤ id → HasId resources kind id → Contains ids id

-- going from each id to the next finds all ids of a type in ascending order
abbrev pub FindsAll : List Resource → Type 0
FindsAll resources = (kind : ℕ) (after : ℤ) (ids : List ℤ) → AreIds resources kind after ids → AreAllIds resources kind after ids

-- and comes to an end from each signed word
abbrev pub ComesToEnd : List Resource → Type 0
ComesToEnd resources = (kind : ℕ) (after : ℤ) → pos 0 ≤ℤ (after +ℤ pos 32768) → (ids : List ℤ) × AreIds resources kind after ids
