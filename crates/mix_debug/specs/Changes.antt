-- The bytes that a step changed, as runs of bytes that stood side by side, and how many bytes of history these take.
use Rattle.std.specs.Prelude.{ℕ, suc, ◌+◌, ◌==◌, if◌then◌else◌, List, [], ◌∷◌, length}

-- old bytes, and the address of the first of them
pub record Run : Type 0 where
  pub at : ℕ
  pub old : List ℕ

-- the run that begins at an address goes on behind a byte there
unfoldable pub joined : ℕ → ℕ → List Run → List Run
joined at x [] = record { at = at; old = x ∷ [] } ∷ []
joined at x (r ∷ rs) =
    if r.at == suc at then record { at = at; old = x ∷ r.old } ∷ rs else record { at = at; old = x ∷ [] } ∷ r ∷ rs

-- the maximal runs in which two lists of bytes differ, the lowest first, with the bytes of the first list; both begin
-- at the address
unfoldable pub runs_from : ℕ → List ℕ → List ℕ → List Run
runs_from at [] ys = []
runs_from at (x ∷ xs) [] = []
runs_from at (x ∷ xs) (y ∷ ys) = if x == y then runs_from (suc at) xs ys else joined at x (runs_from (suc at) xs ys)

-- how many bytes of history runs take: an address, a length and the old bytes each
unfoldable pub runs_cost : List Run → ℕ
runs_cost [] = 0
runs_cost (r ∷ rs) = 8 + length r.old + runs_cost rs
