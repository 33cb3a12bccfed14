-- The answer by the form of a line's name and the line's operands.
use Rattle.std.specs.Prelude.{ℕ, ◌==◌, List, length, slice_index, Bool, false, Option, Some, None, Result, Ok, Err, if◌then◌else◌}
use Rattle.std.specs.Str.{bytes_eq}
use Rattle.mix_bits.specs.Names.{name_of}
use Rattle.mix_bits.specs.laws.Names.{rest_of}
use Rattle.m68_isa.specs.declared.instructions.Decoded68.{Decoded68}
use Rattle.m68_isa.specs.declared.instructions.Decoded68.TheVariants.{Op}
use Rattle.m68_isa.specs.Decode.{decoded}
use Rattle.m68_text.specs.Text.{text_of}
use Rattle.asm_m68.specs.declared.assembler.AsmError.{AsmError}
use Rattle.asm_m68.specs.declared.assembler.AsmError.TheVariants.{Name, Operands}
use Rattle.asm_m68.specs.declared.form.Form.{Form}
use Rattle.asm_m68.specs.declared.form.Form.TheVariants.{Data}
use Rattle.asm_m68.specs.Assembly.{data_text}
use Rattle.asm_m68.specs.laws.Operands.{read_all}
use Rattle.asm_m68.specs.laws.Spelling.{spelled}
use Rattle.asm_m68.specs.laws.Table.{form_of}

-- whether the words of an instruction have this text
abbrev pub tells : Decoded68 → List ℕ → ℕ → List ℕ → Bool
tells (Op i used) ws at line = if used == length ws then bytes_eq (text_of (Op i used) ws at) line else false
tells _ ws at line = false

abbrev pub has_text : List ℕ → ℕ → List ℕ → Bool
has_text ws at line = tells (decoded ws) ws at line

abbrev pub prints : Form → List ℕ → ℕ → List ℕ → Bool
prints Data ws at line = bytes_eq (data_text (slice_index ws 0)) line
prints form ws at line = has_text ws at line

abbrev pub checked : Form → List ℕ → ℕ → List ℕ → Result (List ℕ) AsmError
checked form ws at line = if prints form ws at line then Ok ws else Err Operands

abbrev pub with_form : Option Form → List ℕ → ℕ → Result (List ℕ) AsmError
with_form None line at = Err Name
with_form (Some form) line at = checked form (spelled form at (read_all (rest_of line))) at line

abbrev pub assembled : List ℕ → ℕ → Result (List ℕ) AsmError
assembled line at = with_form (form_of (name_of line)) line at
