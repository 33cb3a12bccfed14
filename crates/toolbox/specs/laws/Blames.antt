-- Whose count rose, over several calls.
use Rattle.std.specs.Prelude.{Option}
use Rattle.toolbox.specs.declared.broken.Broken.{Broken}
use Rattle.toolbox.specs.Blames.{Counts, BlamesOnly, Calm}

-- laws of these
abbrev pub CalmAtFirst : Type 0
CalmAtFirst = (x : Counts) → Calm x x

abbrev pub BlamedAfterCalm : Type 0
BlamedAfterCalm = (broken : Option Broken) (x y z : Counts) → Calm x y → BlamesOnly broken y z → BlamesOnly broken x z
