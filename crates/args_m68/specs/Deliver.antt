-- What a callee is given (Inside Macintosh: PowerPC System Software, chapter 2; its stack's place and its fresh
-- registers are this project's own).
use Rattle.std.specs.Prelude.{ℕ, ◌+◌, ◌%◌, Bool, if◌then◌else◌, List, [], ◌∷◌, ◌++◌, replicate, slice_set, Option, Some, None}
use Rattle.byteorder.specs.Endian.{big_bytes}
use Rattle.mix_bits.specs.declared.size.Size.{Size}
use Rattle.mix_bits.specs.declared.size.Size.TheVariants.{Zero, One, Two, Four}
use Rattle.mix_bits.specs.Sizes.{truncated}
use Rattle.mix_bits.specs.declared.isa.Isa.TheVariants.{M68}
use Rattle.big_memory.specs.Map.{return_gate}
use Rattle.m68_isa.specs.declared.registers.Regs68.{Regs68}
use Rattle.m68_isa.specs.Registers.{cleared_registers}
use Rattle.proc_info.specs.declared.conv.Conv.{Conv}
use Rattle.proc_info.specs.Codes.{dispatch_of}
use Rattle.proc_info.specs.declared.param.Param.{Param}
use Rattle.proc_info.specs.Signature.{Signature}
use Rattle.proc_info.specs.declared.conv.Route.{Route}
use Rattle.proc_info.specs.declared.conv.Route.TheVariants.{PascalStack, CStack}
use Rattle.proc_info.specs.Routes.{route_of}
use Rattle.args_m68.specs.Places.{is_on_stack, params_bytes, place_of, result_bytes, selector_place, selector_width}
use Rattle.args_m68.specs.Values.{with_value}

-- how far above the return address the parameters of a callee begin: a selector on the stack counts where it is passed
abbrev pub callee_base : Signature → Bool → ℕ
callee_base sig passed = 4 + (if passed then selector_width sig.conv sig.selector else 0)

-- how many bytes of stack a callee is given: the return address, a selector that is passed on the stack, the parameters
-- and the room for a result
abbrev pub below : Signature → Bool → ℕ
below sig passed = callee_base sig passed + params_bytes (route_of sig.conv) sig.params + result_bytes (route_of sig.conv) sig.result

-- a value on a Pascal stack: a byte stands at the lower address of its two
abbrev pub pascal_slot : Size → ℕ → List ℕ
pascal_slot Zero v = []
pascal_slot One v = v % 256 ∷ 0 ∷ []
pascal_slot Two v = big_bytes 2 v
pascal_slot Four v = big_bytes 4 v

-- parameters on the stack, from the lowest address on: in Pascal the last one is lowest, in C the first one
abbrev pub slots : Route → List Param → List ℕ → List ℕ
slots PascalStack (p ∷ ps) (v ∷ vs) = slots PascalStack ps vs ++ pascal_slot p.size v
slots CStack (p ∷ ps) (v ∷ vs) = big_bytes 4 (truncated v p.size) ++ slots CStack ps vs
slots _ _ _ = []

-- a selector on the stack
abbrev pub selector_slot : Conv → Size → Option ℕ → List ℕ
selector_slot conv s None = []
selector_slot conv s (Some v) = if is_on_stack (dispatch_of conv) then pascal_slot s v else []

-- the bytes of a callee's stack from its A7 on
abbrev pub stack_of : Signature → Option ℕ → List ℕ → List ℕ
stack_of sig selector values =
    big_bytes 4 (return_gate M68)
    ++ (selector_slot sig.conv sig.selector selector
    ++ (slots (route_of sig.conv) sig.params values ++ replicate (result_bytes (route_of sig.conv) sig.result) 0))

-- a callee's registers before it is passed anything: its A5, its stack pointer and its address, and else 0
abbrev pub fresh : ℕ → ℕ → ℕ → Regs68
fresh a5 sp target = record cleared_registers { a = slice_set (slice_set cleared_registers.a 5 a5) 7 sp; pc = target }

-- registers with a selector, and with the arguments of parameters that stand in registers
abbrev pub with_selector : Signature → Option ℕ → Regs68 → Regs68
with_selector sig None r = r
with_selector sig (Some v) r = with_value (selector_place sig.conv) sig.selector v r

abbrev pub with_arguments : Route → List Param → List ℕ → Regs68 → Regs68
with_arguments route (p ∷ ps) (v ∷ vs) r = with_arguments route ps vs (with_value (place_of route 0 p 0) p.size v r)
with_arguments route _ _ r = r

abbrev pub callee_registers : Signature → Option ℕ → List ℕ → ℕ → ℕ → ℕ → Regs68
callee_registers sig selector values a5 sp target =
    with_arguments (route_of sig.conv) sig.params values (with_selector sig selector (fresh a5 sp target))
