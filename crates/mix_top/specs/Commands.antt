-- The commands of a script: what is written of each, and the command that a text is.
use Rattle.std.specs.Prelude.{ℕ, ◌==◌, List, drop, codes, nat_eq, Bool, Option, Some, None, if◌then◌else◌}
use Rattle.std.specs.Option.{option_map}
use Rattle.std.specs.List.{starts_with}
use Rattle.std.specs.Str.{bytes_eq}
use Rattle.mix_bits.specs.Numbers.{decimal_number, hexadecimal_number}
use Rattle.mix_top.specs.declared.command.ScriptCommand.{ScriptCommand}
use Rattle.mix_top.specs.declared.command.ScriptCommand.TheVariants.{Step, Over, Go, Back, Break, Clear, Where}

-- the number of steps whose decimal digits a text is
abbrev pub counted : Option ℕ → Option ℕ
counted None = None
counted (Some n) = if n == 0 then None else Some n

abbrev pub count_in : List ℕ → Option ℕ
count_in text = counted (decimal_number text)

-- whether a text begins with a word
abbrev pub begins : List ℕ → List ℕ → Bool
begins word text = starts_with nat_eq text word

-- the command that a text without a line feed is
unfoldable pub command_of : List ℕ → Option ScriptCommand
command_of text =
    if bytes_eq text (codes "where") then Some Where
    else (if begins (codes "step ") text then option_map Step (count_in (drop 5 text))
    else (if begins (codes "over ") text then option_map Over (count_in (drop 5 text))
    else (if begins (codes "go ") text then option_map Go (count_in (drop 3 text))
    else (if begins (codes "back ") text then option_map Back (count_in (drop 5 text))
    else (if begins (codes "break ") text then option_map Break (hexadecimal_number 8 (drop 6 text))
    else (if begins (codes "clear ") text then option_map Clear (hexadecimal_number 8 (drop 6 text))
    else None))))))
