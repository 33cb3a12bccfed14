-- What a return gives back.
use Rattle.std.specs.Prelude.{ℕ, Result, Ok}
use Rattle.mix_bits.specs.Results.{◌>>=◌}
use Rattle.big_memory.specs.declared.refusals.Access.{Access}
use Rattle.big_memory.specs.Memory.{Memory}
use Rattle.proc_info.specs.Signature.{Signature}
use Rattle.args_m68.specs.Results.{result_in as result_in_68k, with_result as with_result_68k}
use Rattle.args_ppc.specs.Results.{result_in as result_in_ppc, with_result as with_result_ppc}
use Rattle.switch_frame.specs.declared.active.Active.{Active}
use Rattle.switch_frame.specs.declared.active.Active.TheVariants.{M68, Ppc}

-- the result of a callee at its return, cut to its size, or the refusal of its bytes
abbrev pub result_at : Memory → Signature → Active → Result ℕ Access
result_at m sig (M68 r) = result_in_68k sig r m
result_at m sig (Ppc r) = Ok (result_in_ppc sig r)

-- registers and memory
pub record Given : Type 0 where
  pub file : Active
  pub memory : Memory

-- a caller behind its call, with the result in its place, or the refusal of a store there; from the stack of 68K code
-- the bytes are removed that a return removes
abbrev pub put_result : Memory → Signature → ℕ → Active → Result Given Access
put_result m sig v (M68 r) = with_result_68k sig v r m >>= λ given. Ok (record { file = M68 given.regs; memory = given.memory })
put_result m sig v (Ppc r) = Ok (record { file = Ppc (with_result_ppc sig v r); memory = m })

-- the result, and the caller and memory with it
pub record Returned : Type 0 where
  pub value : ℕ
  pub file : Active
  pub memory : Memory

abbrev pub given_back : Memory → Signature → Active → Active → Result Returned Access
given_back m sig callee caller =
    result_at m sig callee >>= λ v.
    put_result m sig v caller >>= λ given.
    Ok (record { value = v; file = given.file; memory = given.memory })
