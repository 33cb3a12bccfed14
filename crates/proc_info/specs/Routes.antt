-- How a convention passes parameters and results; selectors aside (Inside Macintosh: PowerPC System Software, chapter 2).
use Rattle.proc_info.specs.declared.conv.Conv.{Conv}
use Rattle.proc_info.specs.declared.conv.Route.{Route}
use Rattle.proc_info.specs.Codes.{row}

abbrev pub route_of : Conv → Route
route_of conv = (row conv).2
