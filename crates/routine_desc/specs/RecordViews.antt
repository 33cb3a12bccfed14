-- A record that stands in a list.
use Rattle.std.specs.Prelude.{Option, Some, None}
use Rattle.std.specs.Borrow.{Bor}
use Rattle.routine_desc.specs.declared.record.Rec.{Rec}

abbrev pub picked : Option (Bor Rec) → Option Rec
picked None = None
picked (Some rec) = Some rec.now
