-- The registers of a PowerPC integer program, cleared (PowerPC 601 RISC Microprocessor User's Manual, chapter 2).
use Rattle.std.specs.Prelude.{replicate}
use Rattle.ppc_isa.specs.declared.registers.RegsPpc.{RegsPpc}

-- a register file with 0 in every register
abbrev pub cleared_registers : RegsPpc
cleared_registers = record { gpr = replicate 32 0; cr = 0; lr = 0; ctr = 0; xer = 0; pc = 0 }
