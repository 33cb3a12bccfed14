-- How often a host call puts something on the output: once where it says a piece, and else never.
use Rattle.std.specs.Prelude.{ℕ, ◌==◌, if◌then◌else◌, List, [], length, Option}
use Rattle.mix_io.specs.Calls.{one_more}
use Rattle.toolbox.specs.Host.{Hosted}
use Rattle.toolbox.specs.Host.Hosted.{Goes, Crosses, Leaves, Stops}

-- a count of puts after a piece, which is put if it is not empty
abbrev pub puts_of : List ℕ → Option ℕ → Option ℕ
puts_of piece count = if length piece == 0 then count else one_more count

-- what a host call says
abbrev pub said_in : Hosted → List ℕ
said_in (Goes h effects) = effects.said
said_in (Crosses pointer info) = []
said_in (Leaves code) = []
said_in (Stops fault) = []
