-- Runs of changed bytes within a range.
use Rattle.std.specs.Prelude.{◌≡◌, ℕ, ◌≤◌, ◌==◌, Bool, false, List, [], ◌∷◌, length, take, drop}
use Rattle.mix_debug.specs.Changes.{Run, runs_from}

-- whether the first of some runs begins at an address
abbrev pub begins : ℕ → List Run → Bool
begins at [] = false
begins at (r ∷ rs) = r.at == at

-- the maximal runs of changed bytes from one address up to another alone
abbrev pub runs_in : ℕ → ℕ → List ℕ → List ℕ → List Run
runs_in low high old new = runs_from low (drop low (take high old)) (drop low (take high new))

-- all bytes of two lists outside a range are the same
pub record Covers (low high : ℕ) (old new : List ℕ) : Type 0 where
  pub below : take low old ≡ take low new
  pub above : drop high old ≡ drop high new
  pub order : low ≤ high
  pub old_long : high ≤ length old
  pub new_long : high ≤ length new
