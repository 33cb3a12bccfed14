-- Whether the words in front of the end of memory are too few.
use Rattle.std.specs.Prelude.{◌≡◌, ◌≢◌, Bool, true, false}
use Rattle.m68_isa.specs.declared.instructions.Decoded68.{Decoded68}
use Rattle.m68_isa.specs.declared.instructions.Decoded68.TheVariants.{Short}

-- whether one is
abbrev pub TellsShort : Bool → Decoded68 → Type 0
TellsShort true d = d ≡ Short
TellsShort false d = d ≢ Short
