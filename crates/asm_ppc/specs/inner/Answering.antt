-- The answer by the entry of a line's name and the line's numbers.
use Rattle.std.specs.Prelude.{ℕ, List, Option, Some, None, Result, Ok, Err, if◌then◌else◌}
use Rattle.std.specs.Str.{bytes_eq}
use Rattle.mix_bits.specs.Names.{name_of}
use Rattle.mix_bits.specs.laws.Names.{rest_of}
use Rattle.ppc_text.specs.Text.{long_text, word_text}
use Rattle.asm_ppc.specs.declared.assembler.AsmError.{AsmError}
use Rattle.asm_ppc.specs.declared.assembler.AsmError.TheVariants.{Name, Operands}
use Rattle.asm_ppc.specs.declared.layout.Layout.{Layout}
use Rattle.asm_ppc.specs.declared.layout.Spelling.{Spelling}
use Rattle.asm_ppc.specs.Reading.{read}
use Rattle.asm_ppc.specs.inner.Spelling.{is_long, spelled}
use Rattle.asm_ppc.specs.inner.Table.{looked_up}

-- the text of a word in the form of its entry
abbrev pub text_as : Layout → ℕ → ℕ → List ℕ
text_as layout w at = if is_long layout then long_text w else word_text w at

abbrev pub checked : Layout → ℕ → ℕ → List ℕ → Result ℕ AsmError
checked layout w at line = if bytes_eq (text_as layout w at) line then Ok w else Err Operands

abbrev pub with_entry : Option Spelling → List ℕ → ℕ → Result ℕ AsmError
with_entry None line at = Err Name
with_entry (Some s) line at = checked s.layout (spelled s (read (rest_of line)) at) at line

abbrev pub assembled : List ℕ → ℕ → Result ℕ AsmError
assembled line at = with_entry (looked_up (name_of line)) line at
