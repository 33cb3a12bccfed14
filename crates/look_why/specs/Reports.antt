-- What is said of the lines of a script or of a text.
use Rattle.std.specs.Prelude.{ℕ, ◌++◌, nat_le, List, [], ◌∷◌, length, take, codes, decimal, if◌then◌else◌, Option, Some, None}
use Rattle.mix_bits.specs.Text.{hexadecimal}
use Rattle.look_why.specs.Kinds.{between}
use Rattle.look_why.specs.Rules.{rule_text}
use Rattle.look_why.specs.declared.rule.Rule.{Rule}

abbrev pub taken_text : List ℕ
taken_text = codes "every line is taken\n"

-- a printable byte of ASCII as it is, another as \xHH
abbrev pub shown_byte : ℕ → List ℕ
shown_byte byte = if between 32 126 byte then byte ∷ [] else 92 ∷ (120 ∷ hexadecimal 2 byte)

abbrev pub shown : List ℕ → List ℕ
shown [] = []
shown (byte ∷ bytes) = shown_byte byte ++ shown bytes

-- the first eighty bytes of a line, and dots where it goes on
abbrev pub shown_line : List ℕ → List ℕ
shown_line line = if nat_le (length line) 80 then shown line else shown (take 80 line) ++ codes ".."

abbrev pub address_text : ℕ → List ℕ
address_text address = codes " The line stands at " ++ (hexadecimal 8 address ++ codes ".")

-- where a line stands, if that is told
abbrev pub place_text : Option ℕ → List ℕ
place_text None = []
place_text (Some address) = address_text address

abbrev pub refused_text : ℕ → List ℕ → Rule → Option ℕ → List ℕ
refused_text number line rule place =
    codes "line " ++ (decimal number ++ (codes ": " ++ (shown_line line ++ (codes "\n" ++ (rule_text rule ++ (place_text place ++ codes "\n"))))))
