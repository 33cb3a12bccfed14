-- Registers that are places.
use Rattle.std.specs.Prelude.{◌<◌}
use Rattle.args_m68.specs.declared.places.Place.{Place}
use Rattle.args_m68.specs.declared.places.Place.TheVariants.{Stack, Data, Address, Condition}

-- a register that is a place: A7 is none
abbrev pub IsThere : Place → Type 0
IsThere (Stack from) = Unit {0}
IsThere (Data n) = n < 8
IsThere (Address n) = n < 7
IsThere (Condition flag) = Unit {0}
