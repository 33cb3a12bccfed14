-- What a caller passes to a call.
use Rattle.std.specs.Prelude.{ℕ, List, slice_index, Result, Ok}
use Rattle.mix_bits.specs.Results.{◌>>=◌}
use Rattle.mix_bits.specs.Addresses.{aligned, onward}
use Rattle.mix_bits.specs.declared.size.Size.TheVariants.{Four}
use Rattle.big_memory.specs.declared.refusals.Access.{Access}
use Rattle.big_memory.specs.Memory.{Memory, loaded}
use Rattle.proc_info.specs.Signature.{Signature}
use Rattle.args_m68.specs.Gather.{gathered as gathered_68k}
use Rattle.args_ppc.specs.Words.{gathered as gathered_ppc}
use Rattle.switch_frame.specs.declared.active.Active.{Active}
use Rattle.switch_frame.specs.declared.active.Active.TheVariants.{M68, Ppc}
use Rattle.mode_switch.specs.declared.passed.Entry.{Entry}
use Rattle.mode_switch.specs.declared.wanted.Target.{Target}
use Rattle.mode_switch.specs.declared.wanted.Target.TheVariants.{Code, Vector}
use Rattle.mode_switch.specs.Wanted.{Crossing}

-- the caller as it goes on behind the call: the return address of 68K code is at A7, that of PowerPC code in LR
abbrev pub behind : Memory → Active → Result Active Access
behind m (M68 r) = loaded m (slice_index r.a 7) Four >>= λ back. Ok (M68 (record r { pc = back }))
behind m (Ppc r) = Ok (Ppc (record r { pc = aligned r.lr }))

-- what a callee starts with: its code and the address of its data, which are the two longs of a vector; other code,
-- which is 68K code, has the A5 of the program
abbrev pub entry_at : Memory → ℕ → Target → Result Entry Access
entry_at m a5 (Code address) = Ok (record { code = address; globals = a5 })
entry_at m a5 (Vector address) =
    loaded m address Four >>= λ code.
    loaded m (onward address 4) Four >>= λ globals.
    Ok (record { code = code; globals = globals })

-- the arguments, from the registers as they are at the call
abbrev pub gathered : Memory → Active → Signature → Result (List ℕ) Access
gathered m (M68 r) sig = gathered_68k sig r m
gathered m (Ppc r) sig = gathered_ppc sig r m

pub record Passage : Type 0 where
  pub caller : Active
  pub entry : Entry
  pub args : List ℕ

-- all of it, or the first refusal
abbrev pub passed : Memory → ℕ → Active → Crossing → Result Passage Access
passed m a5 active c =
    behind m active >>= λ caller.
    entry_at m a5 c.target >>= λ entry.
    gathered m active c.sig >>= λ args.
    Ok (record { caller = caller; entry = entry; args = args })
