-- Extension words of a row that was found.
use Rattle.m68_isa.specs.declared.found.Found.{Found}
use Rattle.m68_isa.specs.declared.found.Found.TheVariants.{Made, Privileged as RowPrivileged, Illegal as RowIllegal}
use Rattle.m68_isa.specs.Extended.{IsExtended}

abbrev pub IsExtendedFound : Found → Type 0
IsExtendedFound (Made i used good) = IsExtended i
IsExtendedFound RowPrivileged = Unit {0}
IsExtendedFound RowIllegal = Unit {0}
