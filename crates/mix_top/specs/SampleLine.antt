-- The line that a sample writes.
use Rattle.std.specs.Prelude.{ℕ, List, ◌++◌, codes, decimal}
use Rattle.mix_bits.specs.declared.fault.Fault.{Fault}
use Rattle.call_trace.specs.Names.{fault_name}
use Rattle.mix_top.specs.declared.sampled.Sampled.{Sampled}

-- how it ended
abbrev pub exit_text : ℕ → List ℕ
exit_text code = codes "exit " ++ decimal code

abbrev pub fault_text : Fault → List ℕ
fault_text fault = codes "fault " ++ fault_name fault.kind

-- a name and a number
abbrev pub counted : List ℕ → ℕ → List ℕ
counted name number = name ++ decimal number

-- `sample n=N depth=D calls C returns R steps S`, and how it ended
abbrev pub sample_head : ℕ → ℕ → Sampled → List ℕ
sample_head calls depth sampled =
    counted (codes "sample n=") calls ++ counted (codes " depth=") depth ++ counted (codes " calls ") sampled.calls
    ++ counted (codes " returns ") sampled.returns ++ counted (codes " steps ") sampled.steps ++ codes " "

abbrev pub sample_line : ℕ → ℕ → Sampled → List ℕ → List ℕ
sample_line calls depth sampled ending = sample_head calls depth sampled ++ ending ++ codes "\n"
