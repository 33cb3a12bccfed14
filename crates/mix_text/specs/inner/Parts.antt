-- What the parts of the assembler answer.
use Rattle.std.specs.Prelude.{ℕ, ◌≡◌, suc, ◌==◌, List, [], ◌∷◌, ◌++◌, take, drop, if◌then◌else◌, Ok}
use Rattle.mix_bits.specs.declared.isa.Isa.{Isa}
use Rattle.mix_io.specs.Streams.{Output, Grows}
use Rattle.asm_m68.specs.declared.assembler.AsmError.{AsmError as ErrorM68}
use Rattle.asm_m68.specs.declared.assembler.AsmError.TheVariants.{Name as NameM68, Operands as OperandsM68}
use Rattle.asm_ppc.specs.declared.assembler.AsmError.{AsmError as ErrorPpc}
use Rattle.asm_ppc.specs.declared.assembler.AsmError.TheVariants.{Name as NamePpc, Operands as OperandsPpc}
use Rattle.mix_text.specs.Assembling.{IsGiven, IsInstruction}
use Rattle.mix_text.specs.declared.refused.Reason.{Reason}
use Rattle.mix_text.specs.declared.refused.Reason.TheVariants.{Name, Operands}

-- how many bytes stand before the first line feed; all, where there is none
abbrev pub line_length : List ℕ → ℕ
line_length [] = 0
line_length (byte ∷ text) = if byte == 10 then 0 else suc (line_length text)

abbrev pub first_line : List ℕ → List ℕ
first_line text = take (line_length text) text

-- what stands behind the line feed
abbrev pub behind_line : List ℕ → List ℕ
behind_line text = drop (suc (line_length text)) text

-- why an instruction is refused
abbrev pub reason_m68 : ErrorM68 → Reason
reason_m68 NameM68 = Name
reason_m68 OperandsM68 = Operands

abbrev pub reason_ppc : ErrorPpc → Reason
reason_ppc NamePpc = Name
reason_ppc OperandsPpc = Operands

-- a line that is not refused, with an address or without
abbrev pub GivesBytes : Isa → List ℕ → ℕ → Type 0
GivesBytes set line at = (bytes : List ℕ) × IsGiven set line at (Ok bytes)

abbrev pub SpellsBytes : Isa → List ℕ → ℕ → Type 0
SpellsBytes set line at = (bytes : List ℕ) × IsInstruction set line at (Ok bytes)

-- bytes were added to a piece, of which some went out
pub record Adds (old new : Output) (piece kept bytes : List ℕ) : Type 0 where
  pub out : List ℕ
  pub grows : Grows old new out
  pub split : piece ++ bytes ≡ out ++ kept
