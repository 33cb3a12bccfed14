-- The lines of a script, one by one.
use Rattle.std.specs.Prelude.{ℕ, List, [], ◌∷◌, ◌++◌, IsSome, Option, Some, None, Result, Ok, Err}
use Rattle.std.specs.Option.{option_to_list}
use Rattle.mix_top.specs.declared.command.ScriptCommand.{ScriptCommand}
use Rattle.mix_top.specs.Scripts.{command_in}

-- the first line that is none, if there is one
abbrev pub bad_in : Result (List ScriptCommand) ℕ → Option ℕ
bad_in (Ok cs) = None
bad_in (Err number) = Some number

-- the commands among lines
abbrev pub commands_among : List (List ℕ) → List ScriptCommand
commands_among [] = []
commands_among (line ∷ lines) = option_to_list (command_in line) ++ commands_among lines

abbrev pub AreCommands : List (List ℕ) → Type 0
AreCommands [] = Unit {0}
AreCommands (line ∷ lines) = IsSome (command_in line) × AreCommands lines
