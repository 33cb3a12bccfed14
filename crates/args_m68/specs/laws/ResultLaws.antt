-- Laws of results, and of what a return leaves on the stack.
use Rattle.std.specs.Prelude.{◌≡◌, ℕ, ◌+◌, ◌*◌, ◌==◌, Bool, not, length, Ok}
use Rattle.std.specs.Int.{from_bool}
use Rattle.mix_bits.specs.Sizes.{truncated}
use Rattle.mix_bits.specs.declared.size.Size.{Size}
use Rattle.big_memory.specs.Memory.{Memory}
use Rattle.m68_isa.specs.declared.registers.Regs68.{Regs68}
use Rattle.proc_info.specs.Signature.{Signature}
use Rattle.args_m68.specs.declared.places.Place.{Place}
use Rattle.args_m68.specs.declared.places.Place.TheVariants.{Stack, Data, Address, Condition}
use Rattle.proc_info.specs.declared.conv.Route.{Route}
use Rattle.proc_info.specs.declared.conv.Route.TheVariants.{PascalStack, CStack, Registers}
use Rattle.proc_info.specs.Routes.{route_of}
use Rattle.args_m68.specs.Places.{result_bytes, result_place}
use Rattle.args_m68.specs.Values.{Given}
use Rattle.args_m68.specs.Deliver.{below}
use Rattle.args_m68.specs.Results.{removed, result_in, with_result}

-- what a callee's return leaves of the stack that it was given: in Pascal the result, and in C the parameters, which its
-- caller removes
abbrev pub left_by : Route → Signature → ℕ
left_by PascalStack sig = result_bytes PascalStack sig.result
left_by CStack sig = 4 * length sig.params
left_by Registers sig = 0

-- a return removes the rest of it
abbrev pub ReturnLeaves : Type 0
ReturnLeaves = (sig : Signature) (passed : Bool) → below sig passed ≡ removed sig passed + left_by (route_of sig.conv) sig

-- a register file has eight registers of each kind
pub record IsFile (r : Regs68) : Type 0 where
  pub data_registers : length r.d ≡ 8
  pub address_registers : length r.a ≡ 8

-- a value as its place gives it back: cut to its size, and in a condition bit 0 where that is 0 and else 1
abbrev pub shown_at : Place → Size → ℕ → ℕ
shown_at (Stack from) s v = truncated v s
shown_at (Data n) s v = truncated v s
shown_at (Address n) s v = truncated v s
shown_at (Condition flag) s v = from_bool (not (truncated v s == 0))

-- a result that a caller is given is the one that it finds
abbrev pub ResultComesBack : Type 0
ResultComesBack =
    (sig : Signature) (v : ℕ) (r : Regs68) (m : Memory) (given : Given) → IsFile r → with_result sig v r m ≡ Ok given
    → result_in sig given.regs given.memory ≡ Ok (shown_at (result_place (route_of sig.conv) sig.place) sig.result v)
