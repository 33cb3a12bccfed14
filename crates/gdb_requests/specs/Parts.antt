-- Parts of a text: words, what stands in front of a mark and behind it, and two numbers with a comma between them.
use Rattle.std.specs.Prelude.{ℕ, ◌+◌, ◌==◌, nat_eq, Bool, List, [], ◌∷◌, take, drop, Option, Some, None, if◌then◌else◌}
use Rattle.std.specs.List.{starts_with}
use Rattle.gdb_packets.specs.Hex.{number_said}

abbrev pub begins : List ℕ → List ℕ → Bool
begins word text = starts_with nat_eq text word

-- how many bytes stand in front of the first mark
abbrev pub span : ℕ → List ℕ → ℕ
span mark [] = 0
span mark (b ∷ bs) = if b == mark then 0 else span mark bs + 1

unfoldable pub before : ℕ → List ℕ → List ℕ
before mark text = take (span mark text) text

unfoldable pub behind : ℕ → List ℕ → List ℕ
behind mark text = drop (span mark text + 1) text

abbrev pub both : Option ℕ → Option ℕ → Option (ℕ × ℕ)
both (Some a) (Some b) = Some (a, b)
both (Some a) None = None
both None b = None

-- two numbers with a comma between them
unfoldable pub pair_said : List ℕ → Option (ℕ × ℕ)
pair_said text = both (number_said (before 44 text)) (number_said (behind 44 text))
