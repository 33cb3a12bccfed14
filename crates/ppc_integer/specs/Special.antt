-- Moves from and to the special purpose registers (PowerPC 601 RISC Microprocessor User's Manual, chapter
-- 10, mfspr and mtspr).
use Rattle.std.specs.Prelude.{ℕ}
use Rattle.ppc_isa.specs.declared.registers.RegsPpc.{RegsPpc}
use Rattle.ppc_isa.specs.declared.instruction.SpecialRegister.{SpecialRegister}
use Rattle.ppc_isa.specs.declared.instruction.SpecialRegister.TheVariants.{Xer, Link, Count}
use Rattle.ppc_integer.specs.Xer.{kept_in_xer}
use Rattle.ppc_integer.specs.File.{gpr_of, with_gpr}

abbrev pub special_of : RegsPpc → SpecialRegister → ℕ
special_of r Xer = kept_in_xer r.xer
special_of r Link = r.lr
special_of r Count = r.ctr

abbrev pub move_from_special : RegsPpc → ℕ → SpecialRegister → RegsPpc
move_from_special r d register = with_gpr r d (special_of r register)

abbrev pub move_to_special : RegsPpc → SpecialRegister → ℕ → RegsPpc
move_to_special r Xer s = record r { xer = kept_in_xer (gpr_of r s) }
move_to_special r Link s = record r { lr = gpr_of r s }
move_to_special r Count s = record r { ctr = gpr_of r s }
