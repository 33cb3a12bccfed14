-- Laws of spelling: the text of an instruction spells its words (the texts are this project's own).
use Rattle.std.specs.Prelude.{ℕ, ◌≡◌, ◌^◌, ◌<◌, List, [], ◌∷◌, ◌++◌, length, Option, Some, None}
use Rattle.mix_bits.specs.Names.{name_of}
use Rattle.mix_bits.specs.laws.Names.{rest_of}
use Rattle.m68_isa.specs.declared.instructions.Instr68.{Instr68}
use Rattle.m68_isa.specs.declared.instructions.Decoded68.TheVariants.{Op}
use Rattle.m68_isa.specs.Decode.{decoded}
use Rattle.m68_text.specs.Instructions.{name, operands}
use Rattle.m68_text.specs.Operands.{hex, operands_text}
use Rattle.asm_m68.specs.declared.form.Form.{Form}
use Rattle.asm_m68.specs.declared.form.Form.TheVariants.{Data}
use Rattle.asm_m68.specs.laws.Table.{form_of}
use Rattle.asm_m68.specs.Assembly.{AreWords}
use Rattle.asm_m68.specs.laws.Operands.{read_all}
use Rattle.asm_m68.specs.laws.Spelling.{spelled}

-- the words of a line whose name has this form of an instruction
abbrev pub spelled_by : Option Form → ℕ → List ℕ → List ℕ
spelled_by None at text = []
spelled_by (Some Data) at text = []
spelled_by (Some form) at text = spelled form at (read_all text)

-- the words of a line at an address
abbrev pub spelled_line : List ℕ → ℕ → List ℕ
spelled_line line at = spelled_by (form_of (name_of line)) at (rest_of line)

abbrev pub TextsSpell : Type 0
TextsSpell = (at : ℕ) (ws : List ℕ) (i : Instr68) → at < 2 ^ 32 → AreWords ws → decoded ws ≡ Op i (length ws) → spelled_line (name i (length ws) ++ operands_text (operands i ws at)) at ≡ ws

-- and a word in hexadecimal gives the word
abbrev pub WordsSpell : Type 0
WordsSpell = (at w : ℕ) → w < 2 ^ 16 → spelled Data at (read_all (hex 4 w)) ≡ w ∷ []
