-- The session that a debugger stands for.
use Rattle.std.specs.Prelude.{map}
use Rattle.toolbox.specs.Effects.{Around}
use Rattle.mixed_machine.specs.Machine.{flat}
use Rattle.mix_debug.specs.CostsClauses.{Kept}
use Rattle.mix_debug.specs.TrailsClauses.{Trail}
use Rattle.mix_top.specs.Sessions.{Past, Session}

-- the session that a debugger stands for, with something around it
abbrev pub past_of : Kept → Past
past_of k = record { before = flat k.machine.body k.machine.active; cost = k.cost }

abbrev pub session_of : Trail → Around → Session
session_of t around = record { state = flat t.machine.body t.machine.active around; past = map past_of t.kept; breaks = t.breaks }
