-- The count of faults that each object of the outside keeps, and how an answer is tied to it.
use Rattle.std.specs.Prelude.{◌≡◌, ℕ, ◌-◌, ◌^◌, ◌<◌, ◌≤◌, ◌⊎◌, List}

-- a count went up, or stands at its last value
abbrev pub Rose : ℕ → ℕ → Type 0
Rose before now = (before < now) ⊎ ((before ≡ 2 ^ 64 - 1) × (now ≡ 2 ^ 64 - 1))

-- the counts of all names stay
abbrev pub CountsStay : (List ℕ → ℕ) → (List ℕ → ℕ) → Type 0
CountsStay before now = (n : List ℕ) → now n ≡ before n

-- the count of this name rose, and no name's count fell
pub record CountRose (before now : List ℕ → ℕ) (name : List ℕ) : Type 0 where
  pub rose : Rose (before name) (now name)
  pub later : (n : List ℕ) → before n ≤ now n
