-- Which texts are scripts.
use Rattle.std.specs.Prelude.{◌≡◌, ◌≢◌, ◌↔◌, ℕ, suc, List, [], ◌∷◌, ◌++◌, length, Ok, Err, All}
use Rattle.mix_top.specs.laws.Commands.{IsProper, text_of}
use Rattle.mix_top.specs.Scripts.{script_of}
use Rattle.mix_top.specs.declared.command.ScriptCommand.{ScriptCommand}

-- the lines of commands, one after the other
abbrev pub written : List ScriptCommand → List ℕ
written [] = []
written (c ∷ cs) = text_of c ++ (10 ∷ written cs)

-- a text is the script of exactly the commands whose lines it is
abbrev pub ScriptsAreLines : Type 0
ScriptsAreLines = (text : List ℕ) (cs : List ScriptCommand) → (script_of text ≡ Ok cs) ↔ (All IsProper cs × (written cs ≡ text))

-- the line with this number is the first that is no command: the text begins with the lines of one command less, and what
-- stands behind them is something, and does not begin with the line of a command
pub record IsFirstBad (text : List ℕ) (number : ℕ) : Type 0 where
  pub before : List ScriptCommand
  pub rest : List ℕ
  pub proper : All IsProper before
  pub order : text ≡ written before ++ rest
  pub count : number ≡ suc (length before)
  pub some : rest ≢ []
  pub none : (c : ScriptCommand) (behind : List ℕ) → IsProper c → rest ≢ text_of c ++ (10 ∷ behind)

abbrev pub BadLinesAreFirst : Type 0
BadLinesAreFirst = (text : List ℕ) (number : ℕ) → script_of text ≡ Err number → IsFirstBad text number
