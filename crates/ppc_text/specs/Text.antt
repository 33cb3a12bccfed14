-- The text of a word at an address (this project's own).
use Rattle.std.specs.Prelude.{ℕ, List, ◌++◌, codes, Option, None, Some}
use Rattle.mix_bits.specs.Text.{hexadecimal}
use Rattle.ppc_isa.specs.declared.instruction.InstrPpc.{InstrPpc}
use Rattle.ppc_isa.specs.Rows.{decoded}
use Rattle.ppc_text.specs.Instructions.{name, operands}
use Rattle.ppc_text.specs.Operands.{operands_text}

-- a word as itself
abbrev pub long_text : ℕ → List ℕ
long_text word = codes ".long $" ++ hexadecimal 8 word

-- the name and the operands, or the word itself where it stands for no instruction
abbrev pub text_of : Option InstrPpc → ℕ → ℕ → List ℕ
text_of (Some i) word at = name i ++ operands_text (operands i at)
text_of None word at = long_text word

abbrev pub word_text : ℕ → ℕ → List ℕ
word_text word at = text_of (decoded word) word at
