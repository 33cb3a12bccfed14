-- Where a step of the machine stores: by the instruction, the host function or the frame.
use Rattle.std.specs.Prelude.{ℕ, ◌+◌, ◌==◌, nat_lt, min, max, not, Bool, ◌&&◌, ◌||◌, if◌then◌else◌, Option, Some, None, Result, Ok, Err}
use Rattle.mix_bits.specs.Addresses.{onward}
use Rattle.mix_bits.specs.declared.size.Size.TheVariants.{Four}
use Rattle.big_memory.specs.declared.refusals.Access.{Access}
use Rattle.big_memory.specs.Map.{host_code, in_gate_page}
use Rattle.big_memory.specs.Memory.{Memory, loaded}
use Rattle.m68_isa.specs.declared.registers.Regs68.{Regs68}
use Rattle.m68_isa.specs.declared.instructions.Decoded68.{Decoded68}
use Rattle.m68_isa.specs.declared.instructions.Decoded68.TheVariants.{Op, LineA}
use Rattle.m68_isa.specs.Decode.{decoded as decoded_68k}
use Rattle.m68_ea.specs.Words.{words_at}
use Rattle.ppc_isa.specs.declared.registers.RegsPpc.{RegsPpc}
use Rattle.ppc_isa.specs.declared.instruction.InstrPpc.{InstrPpc}
use Rattle.ppc_isa.specs.Rows.{decoded as decoded_ppc}
use Rattle.switch_frame.specs.declared.active.Active.{Active}
use Rattle.switch_frame.specs.declared.active.Active.TheVariants.{M68, Ppc}
use Rattle.switch_frame.specs.Files.{sp_of}
use Rattle.toolbox.specs.declared.function.Function.{Function}
use Rattle.toolbox.specs.declared.function.Function.TheVariants.{BlockMove, NewFatRoutineDescriptor, NewPtrClear, NewRoutineDescriptor}
use Rattle.toolbox.specs.declared.values.Operands.{Operands}
use Rattle.toolbox.specs.Functions.{function_at, trap_number}
use Rattle.toolbox.specs.Registers.{operands_of}
use Rattle.mix_reach.specs.declared.reach.Reach.{Reach}
use Rattle.mix_reach.specs.declared.reach.Stores.{Stores}
use Rattle.mix_reach.specs.laws.Ranges.{filling, nothing, plain, range}
use Rattle.mix_reach.specs.laws.Rows68.{stores as stores_68k}
use Rattle.mix_reach.specs.laws.RowsPpc.{stores as stores_ppc}

-- a host function stores the bytes that it moves, or in a block that it makes: a descriptor of one record or of two, or
-- zeros
abbrev pub function_stores : Function → Operands → Stores
function_stores NewRoutineDescriptor o = filling 32
function_stores NewFatRoutineDescriptor o = filling 52
function_stores NewPtrClear o = filling o.first
function_stores BlockMove o = plain (range o.second o.third)
function_stores f o = plain nothing

abbrev pub host_stores : Option ℕ → Active → Stores
host_stores (Some index) active = function_stores (function_at index) (operands_of (function_at index) active)
host_stores None active = plain nothing

-- 68K code, an instruction or a word that the host answers
abbrev pub decoded_stores : Regs68 → Decoded68 → Stores
decoded_stores r (Op i used) = plain (stores_68k r i)
decoded_stores r (LineA word) = host_stores (trap_number word) (M68 r)
decoded_stores r other = plain nothing

-- PowerPC code
abbrev pub word_decoded : RegsPpc → Option InstrPpc → Stores
word_decoded r (Some i) = plain (stores_ppc r i)
word_decoded r None = plain nothing

abbrev pub word_stores : RegsPpc → Result ℕ Access → Stores
word_stores r (Ok word) = word_decoded r (decoded_ppc word)
word_stores r (Err e) = plain nothing

-- where the next step stores, by the memory and the registers before it, unless it makes or gives up a frame
abbrev pub next_stores : Memory → Active → Stores
next_stores m (M68 r) = decoded_stores r (decoded_68k (words_at m r.pc))
next_stores m (Ppc r) = if in_gate_page r.pc then host_stores (host_code r.pc) (Ppc r) else word_stores r (loaded m r.pc Four)

-- a step that makes a frame stores from the callee's stack pointer up to the end of the frame, which begins at `top`
abbrev pub frame_made : ℕ → Active → Reach
frame_made top callee = record { low = sp_of callee; high = top + 192 }

-- one that gives it up clears the frame, and may store a result at the caller's stack pointer
abbrev pub frame_given_up : ℕ → Active → Reach
frame_given_up top caller = record { low = min top (onward (sp_of caller) 0); high = max (top + 192) (onward (sp_of caller) 0 + 4) }

-- whether a frame was made, by where the innermost one begins before and after the step
abbrev pub is_made : ℕ → ℕ → Bool
is_made old new = not (new == 0) && (old == 0 || nat_lt new old)

-- where a step stored that made no block: by what is told before it, where the innermost frame began before and after
-- it, and the registers after it
abbrev pub reach : Stores → ℕ → ℕ → Active → Reach
reach next old new active =
    if new == old then next.reach
    else (if is_made old new then frame_made new active else frame_given_up old active)
