-- The registers of a 68000 program, and its condition codes as bits of a word
-- (M68000 Family Programmer's Reference Manual, section 1.1).
use Rattle.std.specs.Prelude.{ℕ, ◌+◌, ◌*◌, ◌/◌, ◌%◌, ◌==◌, false, replicate}
use Rattle.std.specs.Int.{from_bool}
use Rattle.m68_isa.specs.declared.registers.Ccr.{Ccr}
use Rattle.m68_isa.specs.declared.registers.Regs68.{Regs68}

-- the five bits, X in bit 4, then N, Z, V, and C in bit 0
abbrev pub ccr_bits : Ccr → ℕ
ccr_bits c = 16 * from_bool c.x + 8 * from_bool c.n + 4 * from_bool c.z + 2 * from_bool c.v + from_bool c.c

-- the condition codes in the five low bits of a number
abbrev pub ccr_of : ℕ → Ccr
ccr_of bits = record { x = bits / 16 % 2 == 1; n = bits / 8 % 2 == 1; z = bits / 4 % 2 == 1; v = bits / 2 % 2 == 1; c = bits % 2 == 1 }

-- a register file with 0 in every register
abbrev pub cleared_registers : Regs68
cleared_registers = record { d = replicate 8 0; a = replicate 8 0; pc = 0; ccr = record { x = false; n = false; z = false; v = false; c = false } }
