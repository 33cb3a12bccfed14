-- Scripts: texts of lines, each a command.
use Rattle.std.specs.Prelude.{ℕ, ◌+◌, ◌-◌, ◌==◌, nat_eq, List, [], ◌∷◌, length, take, Option, Some, None, Result, Ok, Err, if◌then◌else◌}
use Rattle.std.specs.List.{ends_with}
use Rattle.mix_top.specs.Commands.{command_of}
use Rattle.mix_top.specs.declared.command.ScriptCommand.{ScriptCommand}

-- one byte more in front of the first line
abbrev pub with_byte : ℕ → List (List ℕ) → List (List ℕ)
with_byte byte [] = (byte ∷ []) ∷ []
with_byte byte (line ∷ lines) = (byte ∷ line) ∷ lines

-- the lines of a text, each with the line feed that ends it, which the last one may lack
abbrev pub lines_of : List ℕ → List (List ℕ)
lines_of [] = []
lines_of (byte ∷ text) = if byte == 10 then (byte ∷ []) ∷ lines_of text else with_byte byte (lines_of text)

-- the command that a line is; it has to end with a line feed
abbrev pub command_in : List ℕ → Option ScriptCommand
command_in line = if ends_with nat_eq line (10 ∷ []) then command_of (take (length line - 1) line) else None

-- a command in front of others
abbrev pub in_front : ScriptCommand → Result (List ScriptCommand) ℕ → Result (List ScriptCommand) ℕ
in_front c (Ok cs) = Ok (c ∷ cs)
in_front c (Err number) = Err number

abbrev pub read_then : ℕ → Option ScriptCommand → Result (List ScriptCommand) ℕ → Result (List ScriptCommand) ℕ
read_then number None rest = Err number
read_then number (Some c) rest = in_front c rest

-- the commands of lines, of which the first has this number; or the number of the first line that is none
abbrev pub commands_from : ℕ → List (List ℕ) → Result (List ScriptCommand) ℕ
commands_from number [] = Ok []
commands_from number (line ∷ lines) = read_then number (command_in line) (commands_from (number + 1) lines)

-- the commands of a text, or the number of its first line that is none, counted from 1
abbrev pub script_of : List ℕ → Result (List ScriptCommand) ℕ
script_of text = commands_from 1 (lines_of text)
