-- What holds of the runs of changed bytes of any two lists: they are maximal, and written back they give the old bytes.
use Rattle.std.specs.Prelude.{◌≡◌, ℕ, suc, ◌+◌, ◌<◌, ◌≤◌, ◌==◌, nat_le, nat_lt, not, ◌&&◌, Bool, List, [], ◌∷◌, length, slice_index}
use Rattle.std.specs.List.{list_any}
use Rattle.mix_debug.specs.Changes.{Run, runs_from}
use Rattle.mix_debug.specs.WrittenBack.{undone}

-- the old bytes written back over the new ones give the old ones
abbrev pub Undoes : Type 0
Undoes = (old new : List ℕ) → length old ≡ length new → undone (runs_from 0 old new) new ≡ old

-- whether a run holds the byte at an address
abbrev pub holds : ℕ → Run → Bool
holds k r = nat_le r.at k && nat_lt k (r.at + length r.old)

-- runs of some bytes each, from an address on, with at least one byte between two of them
abbrev pub AreApart : ℕ → List Run → Type 0
AreApart from [] = Unit {0}
AreApart from (r ∷ rs) = (from ≤ r.at) × (0 < length r.old) × AreApart (suc (r.at + length r.old)) rs

-- they hold exactly the bytes that changed, so that none of them can be longer
pub record AreMaximal (old new : List ℕ) (rs : List Run) : Type 0 where
  pub apart : AreApart 0 rs
  pub changed : (k : ℕ) → k < length old → list_any (holds k) rs ≡ not (slice_index old k == slice_index new k)

abbrev pub RunsAreMaximal : Type 0
RunsAreMaximal = (old new : List ℕ) → length old ≡ length new → AreMaximal old new (runs_from 0 old new)
