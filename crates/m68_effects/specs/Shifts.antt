-- Shifts and rotates (M68000 Family Programmer's Reference Manual, section 4: ASL, ASR, LSL, LSR, ROL, ROR,
-- ROXL, ROXR).
use Rattle.std.specs.Prelude.{ℕ, ◌%◌, slice_index}
use Rattle.m68_isa.specs.declared.registers.Regs68.{Regs68}
use Rattle.m68_isa.specs.declared.instructions.ShiftCount.{ShiftCount}
use Rattle.m68_isa.specs.declared.instructions.ShiftCount.TheVariants.{Number, Register}

-- by 1 to 8, or by a data register modulo 64
abbrev pub count_of : Regs68 → ShiftCount → ℕ
count_of r (Number n) = n
count_of r (Register n) = slice_index r.d n % 64
