-- The line of a command of a script.
use Rattle.std.specs.Prelude.{ℕ, ◌^◌, ◌<◌, ◌++◌, List, codes, decimal}
use Rattle.mix_bits.specs.Text.{hexadecimal}
use Rattle.mix_top.specs.declared.command.ScriptCommand.{ScriptCommand}
use Rattle.mix_top.specs.declared.command.ScriptCommand.TheVariants.{Step, Over, Go, Back, Break, Clear, Where}

-- the line of a command, without its line feed
unfoldable pub text_of : ScriptCommand → List ℕ
text_of (Step n) = codes "step " ++ decimal n
text_of (Over n) = codes "over " ++ decimal n
text_of (Go n) = codes "go " ++ decimal n
text_of (Back n) = codes "back " ++ decimal n
text_of (Break a) = codes "break " ++ hexadecimal 8 a
text_of (Clear a) = codes "clear " ++ hexadecimal 8 a
text_of Where = codes "where"

-- a number of steps, and an address
abbrev pub IsCount : ℕ → Type 0
IsCount n = (0 < n) × (n < 2 ^ 32)

abbrev pub IsProper : ScriptCommand → Type 0
IsProper (Step n) = IsCount n
IsProper (Over n) = IsCount n
IsProper (Go n) = IsCount n
IsProper (Back n) = IsCount n
IsProper (Break a) = a < 2 ^ 32
IsProper (Clear a) = a < 2 ^ 32
IsProper Where = Unit {0}
