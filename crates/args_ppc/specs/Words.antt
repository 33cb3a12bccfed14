-- The argument words of a call in PowerPC code (Inside Macintosh: PowerPC System Software, chapter 1), and what
-- CallUniversalProc is passed (chapter 2; that the selector comes first among it is this project's own).
use Rattle.std.specs.Prelude.{ℕ, ◌+◌, ◌*◌, nat_lt, if◌then◌else◌, List, [], ◌∷◌, slice_index, Result, Ok}
use Rattle.mix_bits.specs.Results.{◌>>=◌}
use Rattle.mix_bits.specs.Addresses.{onward}
use Rattle.mix_bits.specs.Sizes.{truncated}
use Rattle.mix_bits.specs.declared.size.Size.{Size}
use Rattle.mix_bits.specs.declared.size.Size.TheVariants.{Four}
use Rattle.big_memory.specs.declared.refusals.Access.{Access}
use Rattle.big_memory.specs.Memory.{Memory, loaded}
use Rattle.ppc_isa.specs.declared.registers.RegsPpc.{RegsPpc}
use Rattle.proc_info.specs.declared.param.Param.{Param}
use Rattle.proc_info.specs.Codes.{is_dispatched}
use Rattle.proc_info.specs.Signature.{Signature}
use Rattle.proc_info.specs.inner.Arguments.{Appends}
use Rattle.args_ppc.specs.Arguments.{answered, words_of}

-- word i of a call, counted from 0: the first eight stand in r3 to r10, the others in their places in the stack frame
abbrev pub word_at : RegsPpc → Memory → ℕ → Result ℕ Access
word_at r m i = if nat_lt i 8 then Ok (slice_index r.gpr (3 + i)) else loaded m (onward (slice_index r.gpr 1) (24 + 4 * i)) Four

-- a word cut to a size
unfoldable pub value_at : RegsPpc → Memory → ℕ → Size → Result ℕ Access
value_at r m i s = word_at r m i >>= λ w. Ok (truncated w s)

-- the values of parameters in the words from i on, or the first refusal
abbrev pub values_at : RegsPpc → Memory → ℕ → List Param → Result (List ℕ) Access
values_at r m i [] = Ok []
values_at r m i (p ∷ ps) = value_at r m i p.size >>= λ v. values_at r m (i + 1) ps >>= λ vs. Ok (v ∷ vs)

abbrev pub selector_in : Signature → RegsPpc → ℕ
selector_in sig r = truncated (slice_index r.gpr 5) sig.selector

-- CallUniversalProc's own arguments are words 0 and 1; a dispatched call's selector is word 2, and the parameters follow
abbrev pub gathered : Signature → RegsPpc → Memory → Result (List ℕ) Access
gathered sig r m = values_at r m (if is_dispatched sig.conv then 3 else 2) sig.params
