-- Where the operands of a host call are, and where its results go.
use Rattle.std.specs.Prelude.{ℕ, ◌%◌, ◌^◌, ◌==◌, nat_le, false, if◌then◌else◌, slice_index, slice_set, Option, Some, None}
use Rattle.mix_bits.specs.Addresses.{onward, aligned}
use Rattle.m68_isa.specs.declared.registers.Ccr.{Ccr}
use Rattle.m68_isa.specs.declared.registers.Regs68.{Regs68}
use Rattle.ppc_isa.specs.declared.registers.RegsPpc.{RegsPpc}
use Rattle.switch_frame.specs.declared.active.Active.{Active}
use Rattle.switch_frame.specs.declared.active.Active.TheVariants.{M68, Ppc}
use Rattle.toolbox.specs.declared.function.Function.{Function}
use Rattle.toolbox.specs.declared.table.Register.{Register}
use Rattle.toolbox.specs.declared.table.Register.TheVariants.{D0, D1, A0, A1}
use Rattle.toolbox.specs.declared.table.PpcResults.{PpcResults}
use Rattle.toolbox.specs.declared.table.PpcResults.TheVariants.{Nothing, R3, R3AndR4}
use Rattle.toolbox.specs.Table.{row}
use Rattle.toolbox.specs.declared.values.Operands.{Operands}
use Rattle.toolbox.specs.declared.values.Results.{Results}

-- the value of a register, 0 where there is none, and a register set to a value
abbrev pub value_in : Regs68 → Option Register → ℕ
value_in regs None = 0
value_in regs (Some D0) = slice_index regs.d 0
value_in regs (Some D1) = slice_index regs.d 1
value_in regs (Some A0) = slice_index regs.a 0
value_in regs (Some A1) = slice_index regs.a 1

abbrev pub with_register : Option Register → ℕ → Regs68 → Regs68
with_register None v regs = regs
with_register (Some D0) v regs = record regs { d = slice_set regs.d 0 v }
with_register (Some D1) v regs = record regs { d = slice_set regs.d 1 v }
with_register (Some A0) v regs = record regs { a = slice_set regs.a 0 v }
with_register (Some A1) v regs = record regs { a = slice_set regs.a 1 v }

abbrev pub with_registers : Function → Results → Regs68 → Regs68
with_registers f x regs = with_register (row f).results.1 x.second (with_register (row f).results.0 x.first regs)

abbrev pub operands_of : Function → Active → Operands
operands_of f (M68 regs) =
    record { first = value_in regs (row f).operands.0; second = value_in regs (row f).operands.1; third = value_in regs (row f).operands.2 }
operands_of f (Ppc regs) = record { first = slice_index regs.gpr 3; second = slice_index regs.gpr 4; third = slice_index regs.gpr 5 }

-- the condition codes of a word: N and Z by its value, V and C cleared
abbrev pub codes_of_word : ℕ → Ccr → Ccr
codes_of_word word ccr = record ccr { n = nat_le (2 ^ 15) word; z = word == 0; v = false; c = false }

-- an operand on the stack is a long
abbrev pub with_stack : Function → Regs68 → Regs68
with_stack f regs = if (row f).pops then record regs { a = slice_set regs.a 7 (onward (slice_index regs.a 7) 4) } else regs

abbrev pub with_codes : Function → Regs68 → Regs68
with_codes f regs = if (row f).sets_codes then record regs { ccr = codes_of_word (slice_index regs.d 0 % 2 ^ 16) regs.ccr } else regs

-- 68K code goes on behind the trap
abbrev pub behind_trap : Regs68 → Regs68
behind_trap regs = record regs { pc = onward regs.pc 2 }

-- the general registers of PowerPC code that get results
abbrev pub with_gprs : PpcResults → Results → RegsPpc → RegsPpc
with_gprs Nothing x regs = regs
with_gprs R3 x regs = record regs { gpr = slice_set regs.gpr 3 x.first }
with_gprs R3AndR4 x regs = record regs { gpr = slice_set (slice_set regs.gpr 3 x.first) 4 x.second }

-- PowerPC code goes on where its link register says
abbrev pub at_link : RegsPpc → RegsPpc
at_link regs = record regs { pc = aligned regs.lr }

-- the registers after a call that gave these results
abbrev pub answered : Function → Results → Active → Active
answered f x (M68 regs) = M68 (behind_trap (with_codes f (with_stack f (with_registers f x regs))))
answered f x (Ppc regs) = Ppc (at_link (with_gprs (row f).ppc_results x regs))
