-- The text of an instruction's words at an address (this project's own).
use Rattle.std.specs.Prelude.{ℕ, List, ◌++◌, codes, slice_index}
use Rattle.m68_isa.specs.declared.instructions.Decoded68.{Decoded68}
use Rattle.m68_isa.specs.declared.instructions.Decoded68.TheVariants.{Op}
use Rattle.m68_text.specs.Instructions.{name, operands}
use Rattle.m68_text.specs.Operands.{operands_text, hex}

-- the name and the operands; where the words are no instruction of a program, the first one alone
abbrev pub text_of : Decoded68 → List ℕ → ℕ → List ℕ
text_of (Op i used) ws at = name i used ++ operands_text (operands i ws at)
text_of _ ws at = codes "dc.w " ++ hex 4 (slice_index ws 0)
