-- How one turn of the loop ends.
use Rattle.switch_frame.specs.declared.active.Active.{Active}
use Rattle.mix_engine.specs.declared.turn.TurnEnd.{TurnEnd}
use Rattle.mix_engine.specs.declared.turn.TurnEnd.TheVariants.{Back as IsBack, Stop as IsStop}
use Rattle.mix_engine.specs.declared.turn.Turn.{Turn}
use Rattle.mix_engine.specs.declared.turn.Turn.TheVariants.{Back, Stop as Stopped}

-- an end with the registers
abbrev pub turn_of : Active → TurnEnd → Turn
turn_of file IsBack = Back file
turn_of file (IsStop stop) = Stopped file stop
