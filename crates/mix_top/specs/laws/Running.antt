-- The answers that devices gave in a call.
use Rattle.std.specs.Prelude.{ℕ, List, Option}
use Rattle.toolbox.specs.Calls.{answers_since}
use Rattle.mix_top.specs.World.{Beside}

-- the answers that the devices gave in the call: those of the journal's new entries
abbrev pub answers_given : Beside → Beside → List (Option ℕ)
answers_given old new = answers_since old.outside.rack new.outside.rack
