-- What a return removes, and results (Inside Macintosh: PowerPC System Software, chapter 2; which bytes of a register a
-- short result replaces is this project's own).
use Rattle.std.specs.Prelude.{ℕ, ◌+◌, Bool, true, slice_set, Result}
use Rattle.big_memory.specs.declared.refusals.Access.{Access}
use Rattle.big_memory.specs.Memory.{Memory}
use Rattle.m68_isa.specs.declared.registers.Regs68.{Regs68}
use Rattle.proc_info.specs.Signature.{Signature}
use Rattle.proc_info.specs.declared.conv.Route.{Route}
use Rattle.proc_info.specs.declared.conv.Route.TheVariants.{PascalStack}
use Rattle.proc_info.specs.Routes.{route_of}
use Rattle.args_m68.specs.Places.{result_place, widths}
use Rattle.args_m68.specs.Values.{Given, above_sp, put_at, value_at}
use Rattle.args_m68.specs.Deliver.{callee_base}

-- how many bytes a callee's return removes from the stack: the return address, and in Pascal the parameters and a
-- selector that was passed on the stack
abbrev pub removed_by : Route → Signature → Bool → ℕ
removed_by PascalStack sig passed = callee_base sig passed + widths sig.params
removed_by _ sig passed = 4

abbrev pub removed : Signature → Bool → ℕ
removed sig passed = removed_by (route_of sig.conv) sig passed

-- a callee's result after its return, or the refusal of its bytes
abbrev pub result_in : Signature → Regs68 → Memory → Result ℕ Access
result_in sig r m = value_at r m (result_place (route_of sig.conv) sig.place) sig.result

-- a caller's registers with the bytes removed that a return removes; it has always passed its selector
abbrev pub after_call : Signature → Regs68 → Regs68
after_call sig r = record r { a = slice_set r.a 7 (above_sp r (removed sig true)) }

-- a caller's registers and memory with a result in its place behind the call, or the refusal of a store there
abbrev pub with_result : Signature → ℕ → Regs68 → Memory → Result Given Access
with_result sig v r m = put_at (result_place (route_of sig.conv) sig.place) sig.result v (after_call sig r) m
