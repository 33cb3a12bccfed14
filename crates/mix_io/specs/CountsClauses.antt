-- The cause of a failure: the count that rose.
use Rattle.std.specs.Prelude.{◌≡◌, ℕ, ◌≤◌, Bool, true, false, List, OnOk, OnErr, Result}
use Rattle.mix_io.specs.Counts.{Rose, CountsStay, CountRose}

-- a call failed only where its object's count rose, and every other answer leaves the count
pub record HasCause {V E : Type 0} (before now : ℕ) (result : Result V E) : Type 0 where
  pub later : before ≤ now
  pub failed : OnErr result (Rose before now)
  pub same : OnOk result (now ≡ before)

-- a call that goes by a name failed only where the count of that very name rose, and else leaves all counts
abbrev pub NamedCause : (List ℕ → ℕ) → (List ℕ → ℕ) → List ℕ → Bool → Type 0
NamedCause before now name true = CountRose before now name
NamedCause before now name false = CountsStay before now
