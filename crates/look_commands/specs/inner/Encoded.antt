-- Why a file that can be text was not read.
use Rattle.std.specs.Prelude.{Bool, true, false}
use Rattle.binhex.specs.declared.error.BinHexError.{BinHexError}
use Rattle.binhex.specs.declared.error.BinHexError.TheVariants.{NoMemory}

-- that a file was not read for want of memory alone
abbrev pub is_want_of_memory : BinHexError → Bool
is_want_of_memory NoMemory = true
is_want_of_memory error = false
