-- One of the states that a machine stands for.
use Rattle.std.specs.Prelude.{ℕ, List, Option}
use Rattle.toolbox.specs.Calls.{answers_since}
use Rattle.toolbox.specs.Calls.{around_at}
use Rattle.mixed_machine.specs.State.{State}
use Rattle.mixed_machine.specs.Machine.{flat}
use Rattle.mixed_machine.specs.OutsideClauses.{At}

-- the state that a machine stands for, for some bytes of input that are left and some answers to come
abbrev pub state_of : At → List ℕ → List (Option ℕ) → State
state_of a input answers = flat a.body a.active (around_at a.outside input answers)

-- the answers that the new entries of the journal tell
abbrev pub answers_between : At → At → List (Option ℕ)
answers_between a b = answers_since a.outside.rack b.outside.rack
