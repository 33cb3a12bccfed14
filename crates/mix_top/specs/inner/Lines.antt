-- The last line and the status of a refusal.
use Rattle.std.specs.Prelude.{ℕ, List, Option, None, Some}
use Rattle.mix_top.specs.Lines.{memory_line, Refusal, load_line}

-- the last line and the status where there is a refusal, or else no memory
abbrev pub refused_line : Option Refusal → List ℕ
refused_line None = memory_line
refused_line (Some why) = load_line why

abbrev pub refused_status : Option Refusal → ℕ
refused_status None = 9
refused_status (Some why) = 3
