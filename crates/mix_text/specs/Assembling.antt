-- What a text of lines assembles to, line by line: its bytes, or the first line that is refused (this project's own).
use Rattle.std.specs.Prelude.{ℕ, ◌≡◌, ◌+◌, ◌/◌, ◌%◌, ◌^◌, ◌<◌, ◌==◌, List, [], ◌∷◌, ◌++◌, length, drop, MatchBool, Option, Some, None, Result, Ok, Err}
use Rattle.mix_bits.specs.Addresses.{onward}
use Rattle.mix_bits.specs.declared.isa.Isa.{Isa}
use Rattle.mix_bits.specs.declared.isa.Isa.TheVariants.{M68, Ppc}
use Rattle.mix_bits.specs.Names.{name_of}
use Rattle.asm_m68.specs.Assembly.{Gives as GivesM68}
use Rattle.asm_ppc.specs.Assembly.{Gives as GivesPpc}
use Rattle.mix_text.specs.Lines.{address_in, is_silent, lines_of}
use Rattle.mix_text.specs.declared.refused.Reason.{Reason}
use Rattle.mix_text.specs.declared.refused.Reason.TheVariants.{Address, Name, Operands}
use Rattle.mix_text.specs.declared.refused.Refused.{Refused}

-- the bytes of words of sixteen bits, the high one first
abbrev pub word_bytes : List ℕ → List ℕ
word_bytes [] = []
word_bytes (word ∷ words) = word / 256 ∷ (word % 256 ∷ word_bytes words)

-- those of a long
abbrev pub long_bytes : ℕ → List ℕ
long_bytes long = word_bytes (long / 65536 ∷ (long % 65536 ∷ []))

-- a name is one of an instruction set where some line with it gives something, at some address
pub record IsKnown {X : Type 0} (Gives : List ℕ → ℕ → X → Type 0) (name : List ℕ) : Type 0 where
  pub line : List ℕ
  pub at : ℕ
  pub fits : at < 2 ^ 32
  pub code : X
  pub gives : Gives line at code
  pub named : name_of line ≡ name

-- a line gives the bytes of what it stands for at an address; else its name is none, or it stands for nothing
abbrev pub IsAnswer : {X : Type 0} → (List ℕ → ℕ → X → Type 0) → (X → List ℕ) → List ℕ → ℕ → Result (List ℕ) Reason → Type 0
IsAnswer {X = X} Gives bytes_of line at (Ok bytes) = (code : X) × Gives line at code × (bytes ≡ bytes_of code)
IsAnswer {X = X} Gives bytes_of line at (Err Address) = ⊥
IsAnswer {X = X} Gives bytes_of line at (Err Name) = ¬ IsKnown Gives (name_of line)
IsAnswer {X = X} Gives bytes_of line at (Err Operands) = IsKnown Gives (name_of line) × ((code : X) → ¬ Gives line at code)

-- a line of 68K code stands for the words whose text at an address it is
abbrev pub IsM68 : List ℕ → ℕ → Result (List ℕ) Reason → Type 0
IsM68 line at given = IsAnswer GivesM68 word_bytes line at given

-- a line of PowerPC code, the same of its word
abbrev pub IsPpc : List ℕ → ℕ → Result (List ℕ) Reason → Type 0
IsPpc line at given = IsAnswer GivesPpc long_bytes line at given

abbrev pub IsInstruction : Isa → List ℕ → ℕ → Result (List ℕ) Reason → Type 0
IsInstruction M68 line at given = IsM68 line at given
IsInstruction Ppc line at given = IsPpc line at given

-- an address in front has to be the line's
abbrev pub IsAddressed : Option ℕ → Isa → List ℕ → ℕ → Result (List ℕ) Reason → Type 0
IsAddressed None set line at given = IsInstruction set line at given
IsAddressed (Some address) set line at given = MatchBool (address == at) (IsInstruction set (drop 10 line) at given) (given ≡ Err Address)

-- what a whole line gives at its address
abbrev pub IsGiven : Isa → List ℕ → ℕ → Result (List ℕ) Reason → Type 0
IsGiven set line at given = MatchBool (is_silent line) (given ≡ Ok []) (IsAddressed (address_in line) set line at given)

abbrev pub refused_at : ℕ → Reason → Refused
refused_at line reason = record { line = line; reason = reason }

-- bytes before others
abbrev pub before : List ℕ → Result (List ℕ) Refused → Result (List ℕ) Refused
before bytes (Ok more) = Ok (bytes ++ more)
before bytes (Err refused) = Err refused

-- the bytes of a line and then those of the lines behind it; or the line is refused
abbrev pub IsWithRest : ℕ → Result (List ℕ) Reason → (ℕ → Result (List ℕ) Refused → Type 0) → Result (List ℕ) Refused → Type 0
IsWithRest number (Ok bytes) Rest all = (rest : Result (List ℕ) Refused) × Rest (length bytes) rest × (all ≡ before bytes rest)
IsWithRest number (Err reason) Rest all = all ≡ Err (refused_at number reason)

-- the bytes of lines from an address on, of which the first has this number, or the first that is refused; each line
-- stands behind the bytes of those before it
abbrev pub Assembles : Isa → ℕ → ℕ → List (List ℕ) → Result (List ℕ) Refused → Type 0
Assembles set number at [] all = all ≡ Ok []
Assembles set number at (line ∷ lines) all =
    (given : Result (List ℕ) Reason) × IsGiven set line at given
    × IsWithRest number given (λ count rest. Assembles set (number + 1) (onward at count) lines rest) all

-- the bytes of a text, whose first line stands at an address and has the number 1
abbrev pub IsAssembled : Isa → ℕ → List ℕ → Result (List ℕ) Refused → Type 0
IsAssembled set at text all = Assembles set 1 at (lines_of text) all
