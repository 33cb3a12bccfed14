-- Where a machine is: the running code, and the suspended callers from the innermost outward.
use Rattle.std.specs.Prelude.{ℕ, suc, List, [], ◌∷◌, ◌++◌, codes, decimal}
use Rattle.mix_bits.specs.Text.{hexadecimal}
use Rattle.switch_frame.specs.Files.{pc_of}
use Rattle.switch_frame.specs.Records.{Record, isa_of}
use Rattle.switch_frame.specs.declared.active.Active.{Active}
use Rattle.call_trace.specs.Names.{set_name}

-- `K SET PC`: a number in decimal, the set of instructions, and the address at which its code goes on
abbrev pub place_of : ℕ → Active → List ℕ
place_of k file = decimal k ++ codes " " ++ set_name (isa_of file) ++ codes " " ++ hexadecimal 8 (pc_of file)

-- the line of the running code
unfoldable pub here_line : Active → List ℕ
here_line file = place_of 0 file ++ codes "\n"

-- that of a caller, with what it called: `K SET PC TARGET PROCINFO`
unfoldable pub caller_line : ℕ → Record → List ℕ
caller_line k r = place_of k r.caller ++ codes " " ++ hexadecimal 8 r.target ++ codes " " ++ hexadecimal 8 r.info ++ codes "\n"

-- those of callers, of which the first has this number
unfoldable pub caller_lines : ℕ → List Record → List ℕ
caller_lines k [] = []
caller_lines k (r ∷ rs) = caller_line k r ++ caller_lines (suc k) rs
