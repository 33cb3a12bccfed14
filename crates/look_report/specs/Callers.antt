-- What is told of the suspended callers, from the innermost outward.
use Rattle.std.specs.Prelude.{ℕ, suc, ◌-◌, ◌==◌, ◌||◌, nat_le, nat_lt, List, [], ◌∷◌, ◌++◌, codes, decimal, if◌then◌else◌}
use Rattle.mix_bits.specs.Text.{hexadecimal}
use Rattle.switch_frame.specs.Files.{pc_of}
use Rattle.switch_frame.specs.Records.{Record, isa_of}
use Rattle.call_trace.specs.Names.{set_name}
use Rattle.look_text.specs.Info.{info_of}
use Rattle.look_text.specs.Pieces.{joined}

-- where a caller's frame lies, where its code goes on, and what it called
abbrev pub frame_line : ℕ → Record → List ℕ
frame_line k r =
    joined (codes "frame " ∷ decimal k ∷ codes ", " ∷ hexadecimal 8 r.lo ∷ codes " to " ∷ hexadecimal 8 r.hi ∷ codes ": "
    ∷ set_name (isa_of r.caller) ∷ codes " goes on at " ∷ hexadecimal 8 (pc_of r.caller) ∷ codes ", called " ∷ hexadecimal 8 r.target ∷ codes ", procInfo " ∷ [])

-- and what its call passes, in words
abbrev pub frame_text : ℕ → Record → List ℕ
frame_text k r = frame_line k r ++ info_of r.info

abbrev pub passed_text : ℕ → List ℕ
passed_text untold = joined (codes "and " ∷ decimal untold ∷ codes " frames more, which frames=all tells\n" ∷ [])

-- a caller with its number: the first eight are told, and those behind so many more that are not
unfoldable pub told_text : ℕ → ℕ → Record → List ℕ
told_text untold k r = if nat_le k 8 || nat_lt untold (k - 8) then frame_text k r else (if k == 9 then passed_text untold else [])

-- callers of which the first has this number
unfoldable pub frames_text : ℕ → ℕ → List Record → List ℕ
frames_text untold k [] = []
frames_text untold k (r ∷ rs) = told_text untold k r ++ frames_text untold (suc k) rs
