-- Pieces put one after another join.
use Rattle.std.specs.Prelude.{ℕ, List, [], ◌++◌}
use Rattle.mix_io.specs.Streams.{Output, Grows, Breaks}

-- nothing that was put leaves a sink as it is; and bytes put after others, or before a put that failed, join these
abbrev pub NothingGrows : Type 0
NothingGrows = (a : Output) → Grows a a []

abbrev pub GrowsJoin : Type 0
GrowsJoin = (a b c : Output) (xs ys : List ℕ) → Grows a b xs → Grows b c ys → Grows a c (xs ++ ys)

abbrev pub BreaksJoin : Type 0
BreaksJoin = (a b c : Output) (xs ys piece : List ℕ) → Grows a b xs → Breaks b c ys piece → Breaks a c (xs ++ ys) piece
