-- The range of the innermost frame.
use Rattle.std.specs.Prelude.{◌≡◌, ℕ, List, [], ◌∷◌}
use Rattle.switch_frame.specs.Records.{Record}

-- the innermost frame has this range
abbrev pub IsInnermost : ℕ → ℕ → List Record → Type 0
IsInnermost lo hi [] = ⊥
IsInnermost lo hi (r ∷ rs) = (r.lo ≡ lo) × (r.hi ≡ hi)
