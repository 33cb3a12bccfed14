-- The statuses of traces.
use Rattle.std.specs.Prelude.{ℕ}
use Rattle.look_report.specs.declared.error.LookError.{LookError}
use Rattle.look_report.specs.declared.error.LookError.TheVariants.{Line, Read, Names, Write, NoMemory}

-- the status of a trace that was not told to its end
abbrev pub status_for : LookError → ℕ
status_for (Line number) = 3
status_for Names = 3
status_for Read = 4
status_for Write = 6
status_for NoMemory = 9
