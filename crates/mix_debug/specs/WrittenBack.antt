-- Changed bytes as they are found, and old bytes as they are written back.
use Rattle.std.specs.Prelude.{ℕ, List, [], ◌∷◌, ◌++◌}
use Rattle.big_memory.specs.Lists.{put}
use Rattle.mix_debug.specs.Changes.{Run}

-- bytes with the old ones written back
unfoldable pub undone : List Run → List ℕ → List ℕ
undone [] bytes = bytes
undone (r ∷ rs) bytes = undone rs (put r.at r.old bytes)

-- the old bytes of all runs, one after another
unfoldable pub olds_of : List Run → List ℕ
olds_of [] = []
olds_of (r ∷ rs) = r.old ++ olds_of rs
