-- Fields of a row that was found.
use Rattle.std.specs.Prelude.{◌<◌, ◌≤◌}
use Rattle.m68_isa.specs.declared.found.Found.{Found}
use Rattle.m68_isa.specs.declared.found.Found.TheVariants.{Made, Privileged as RowPrivileged, Illegal as RowIllegal}
use Rattle.m68_isa.specs.Fields.{HasFields}

abbrev pub HasFound : Found → Type 0
HasFound (Made i used good) = HasFields i × (0 < used) × (used ≤ 5)
HasFound RowPrivileged = Unit {0}
HasFound RowIllegal = Unit {0}
