-- The ways in which a text of lines is assembled.
use Rattle.std.specs.Prelude.{ℕ, pos, List, codes, Ok, Err}
use Rattle.mix_bits.specs.declared.isa.Isa.{Isa}
use Rattle.mix_text.specs.Assembling.{IsAssembled}
use Rattle.mix_text.specs.declared.refused.Reason.{Reason}
use Rattle.mix_text.specs.declared.refused.Reason.TheVariants.{Address, Name, Operands}
use Rattle.mix_text.specs.declared.refused.Refused.{Refused}
use Rattle.mix_top.specs.Lines.{Refusal, load_line, refusal}
use Rattle.mix_top.specs.World.{Beside, Early, Listed}
use Rattle.mix_top.specs.declared.ending.Ending.{Ending}

-- why a line is refused, and its number
abbrev pub reason_name : Reason → List ℕ
reason_name Address = codes "asm-address"
reason_name Name = codes "asm-name"
reason_name Operands = codes "asm-operands"

abbrev pub line_refusal : Refused → Refusal
line_refusal refused = refusal (reason_name refused.reason) (pos refused.line)

-- the ways to end once a text was fetched whose first line stands at an address
pub data AssembleWay (set : Isa) (at : ℕ) (text : List ℕ) (old new : Beside) (result : Ending) : Type 0 where
  -- the first line that is refused; nothing is on the output
  line_refused : (refused : Refused) → IsAssembled set at text (Err refused)
      → Early old new (load_line (line_refusal refused)) 3 result
      → AssembleWay set at text old new result
  -- no line is refused, and the bytes of all were put
  assembled : (bytes : List ℕ) → IsAssembled set at text (Ok bytes) → Listed bytes old new result
      → AssembleWay set at text old new result
