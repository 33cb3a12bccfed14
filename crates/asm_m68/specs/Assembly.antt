-- What a line of 68K code gives: the words of the instruction whose text it is (M68000 Family Programmer's Reference
-- Manual, sections 2, 4 and 8; the texts are this project's own).
use Rattle.std.specs.Prelude.{ℕ, ◌≡◌, ◌⊎◌, ◌^◌, ◌<◌, List, [], ◌∷◌, ◌++◌, codes, length}
use Rattle.m68_isa.specs.declared.instructions.Decoded68.TheVariants.{Op}
use Rattle.m68_isa.specs.declared.instructions.Instr68.{Instr68}
use Rattle.m68_isa.specs.Decode.{decoded}
use Rattle.m68_text.specs.Operands.{hex}
use Rattle.m68_text.specs.Text.{text_of}

-- each is a word
abbrev pub AreWords : List ℕ → Type 0
AreWords [] = Unit {0}
AreWords (w ∷ ws) = (w < 2 ^ 16) × AreWords ws

-- the text of a word that need be no instruction
abbrev pub data_text : ℕ → List ℕ
data_text w = codes "dc.w " ++ hex 4 w

-- the line names a word
pub record IsData (line ws : List ℕ) : Type 0 where
  pub word : ℕ
  pub below : word < 2 ^ 16
  pub alone : ws ≡ word ∷ []
  pub text : line ≡ data_text word

-- the words are one instruction, whose text at the address is the line
pub record IsText (line : List ℕ) (at : ℕ) (ws : List ℕ) : Type 0 where
  pub words : AreWords ws
  pub instruction : Instr68
  pub decodes : decoded ws ≡ Op instruction (length ws)
  pub text : line ≡ text_of (decoded ws) ws at

abbrev pub Gives : List ℕ → ℕ → List ℕ → Type 0
Gives line at ws = IsData line ws ⊎ IsText line at ws
