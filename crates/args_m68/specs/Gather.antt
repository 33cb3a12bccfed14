-- What a caller passes, and what a callee finds (Inside Macintosh: PowerPC System Software, chapter 2).
use Rattle.std.specs.Prelude.{ℕ, ◌+◌, List, [], ◌∷◌, Result, Ok}
use Rattle.mix_bits.specs.Results.{◌>>=◌}
use Rattle.big_memory.specs.declared.refusals.Access.{Access}
use Rattle.big_memory.specs.Memory.{Memory}
use Rattle.m68_isa.specs.declared.registers.Regs68.{Regs68}
use Rattle.proc_info.specs.declared.param.Param.{Param}
use Rattle.proc_info.specs.Signature.{Signature}
use Rattle.proc_info.specs.declared.conv.Route.{Route}
use Rattle.proc_info.specs.Routes.{route_of}
use Rattle.args_m68.specs.Places.{next_base, place_of, selector_place, selector_width, widths}
use Rattle.args_m68.specs.Values.{value_at}

-- the values of parameters whose lowest begins so far above the return address, in the parameters' order, or the first
-- refusal
abbrev pub values_at : Regs68 → Memory → Route → ℕ → List Param → Result (List ℕ) Access
values_at r m route base [] = Ok []
values_at r m route base (p ∷ ps) =
    value_at r m (place_of route base p (widths ps)) p.size >>= λ v.
    values_at r m route (next_base route base) ps >>= λ vs.
    Ok (v ∷ vs)

-- the selector of a dispatched call
abbrev pub selector_in : Signature → Regs68 → Memory → Result ℕ Access
selector_in sig r m = value_at r m (selector_place sig.conv) sig.selector

-- what a caller passes: a selector on its stack always counts
abbrev pub gathered : Signature → Regs68 → Memory → Result (List ℕ) Access
gathered sig r m = values_at r m (route_of sig.conv) (4 + selector_width sig.conv sig.selector) sig.params
