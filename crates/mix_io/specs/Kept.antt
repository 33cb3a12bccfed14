-- What a keeper holds after a piece was kept, or several: the bytes of each name, [] for one that was never kept. A keeper
-- that tells nothing is `None`.
use Rattle.std.specs.Prelude.{◌≡◌, ℕ, List, [], ◌++◌, Option, Some, None, ⊤, bytes_eq, if◌then◌else◌}

-- what a piece that is kept under a name adds to the bytes of another name, or of that one
abbrev pub share : List ℕ → List ℕ → List ℕ → List ℕ
share name piece other = if bytes_eq other name then piece else []

-- the piece stands behind the bytes of its name, and all other names keep theirs
abbrev pub KeepsMore : Option (List ℕ → List ℕ) → Option (List ℕ → List ℕ) → List ℕ → List ℕ → Type 0
KeepsMore None None name piece = ⊤
KeepsMore None (Some new) name piece = ⊥
KeepsMore (Some old) None name piece = ⊥
KeepsMore (Some old) (Some new) name piece = (other : List ℕ) → new other ≡ old other ++ share name piece other
