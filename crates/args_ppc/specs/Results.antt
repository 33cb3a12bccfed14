-- Results in PowerPC code, which stand in r3 (Inside Macintosh: PowerPC System Software, chapter 1).
use Rattle.std.specs.Prelude.{ℕ, slice_index, slice_set}
use Rattle.mix_bits.specs.Sizes.{truncated}
use Rattle.mix_bits.specs.declared.size.Size.{Size}
use Rattle.mix_bits.specs.declared.size.Size.TheVariants.{Zero}
use Rattle.ppc_isa.specs.declared.registers.RegsPpc.{RegsPpc}
use Rattle.proc_info.specs.Signature.{Signature}

abbrev pub result_in : Signature → RegsPpc → ℕ
result_in sig r = truncated (slice_index r.gpr 3) sig.result

-- a caller's registers with the cut result, if there is one
abbrev pub with_sized : Size → ℕ → RegsPpc → RegsPpc
with_sized Zero v r = r
with_sized s v r = record r { gpr = slice_set r.gpr 3 (truncated v s) }

abbrev pub with_result : Signature → ℕ → RegsPpc → RegsPpc
with_result sig v r = with_sized sig.result v r
