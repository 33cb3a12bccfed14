-- What the code that many instructions share does: one operation on two numbers, and the step that does it
-- with the operand of a first word (M68000 Family Programmer's Reference Manual, section 4).
use Rattle.std.specs.Prelude.{ℕ, ◌*◌, if◌then◌else◌}
use Rattle.mix_bits.specs.declared.fault.FaultKind.TheVariants.{Illegal}
use Rattle.mix_bits.specs.Addresses.{onward}
use Rattle.m68_isa.specs.declared.registers.Regs68.{Regs68}
use Rattle.m68_isa.specs.declared.operand.Operand.{Operand}
use Rattle.big_memory.specs.Steps.{After}
use Rattle.m68_effects.specs.Parts.{Effect, after}
use Rattle.m68_effects.specs.Step.{stops}

-- an instruction that ends with an operand's words; `row` is over the address behind them
abbrev pub runs_with : Regs68 → ℕ → Operand → (ℕ → Effect) → After Regs68
runs_with r word last row = if last.good then after (row (onward r.pc (2 * last.next))) else stops r Illegal word
