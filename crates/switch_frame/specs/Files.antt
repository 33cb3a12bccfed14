-- A register file of either instruction set: the address of its next instruction, and its stack pointer.
use Rattle.std.specs.Prelude.{ℕ, slice_index}
use Rattle.switch_frame.specs.declared.active.Active.{Active}
use Rattle.switch_frame.specs.declared.active.Active.TheVariants.{M68, Ppc}

abbrev pub pc_of : Active → ℕ
pc_of (M68 r) = r.pc
pc_of (Ppc r) = r.pc

-- A7, or r1
abbrev pub sp_of : Active → ℕ
sp_of (M68 r) = slice_index r.a 7
sp_of (Ppc r) = slice_index r.gpr 1

-- the file with another address to go on at
abbrev pub at_pc : ℕ → Active → Active
at_pc pc (M68 r) = M68 (record r { pc = pc })
at_pc pc (Ppc r) = Ppc (record r { pc = pc })
