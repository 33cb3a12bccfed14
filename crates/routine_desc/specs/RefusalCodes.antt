-- The numbers of the refusals in a report of a fault, which are this project's own.
use Rattle.std.specs.Prelude.{ℕ}
use Rattle.routine_desc.specs.declared.record.BadDesc.{BadDesc}
use Rattle.routine_desc.specs.declared.record.BadDesc.TheVariants.{Access, Magic, Version, Reserved, Count, Isa, Flags, Info, Mixed}

abbrev pub bad_desc_code : BadDesc → ℕ
bad_desc_code Access = 1
bad_desc_code Magic = 2
bad_desc_code Version = 3
bad_desc_code Reserved = 4
bad_desc_code Count = 5
bad_desc_code Isa = 6
bad_desc_code Flags = 7
bad_desc_code (Info bad) = 8
bad_desc_code Mixed = 9
