-- The number of a convention (Inside Macintosh: PowerPC System Software, chapter 2).
use Rattle.std.specs.Prelude.{ℕ}
use Rattle.proc_info.specs.declared.conv.Conv.{Conv}
use Rattle.proc_info.specs.Codes.{row}

abbrev pub conv_code : Conv → ℕ
conv_code conv = (row conv).1
