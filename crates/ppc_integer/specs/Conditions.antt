-- Comparisons and the condition register (PowerPC 601 RISC Microprocessor User's Manual, chapter 10).
use Rattle.std.specs.Prelude.{ℕ, ◌-◌, ◌/◌, ◌==◌, Bool, if◌then◌else◌}
use Rattle.mix_bits.specs.Digits.{digit_of}
use Rattle.ppc_isa.specs.declared.registers.RegsPpc.{RegsPpc}
use Rattle.ppc_isa.specs.declared.instruction.LogicalOp.{LogicalOp}
use Rattle.ppc_isa.specs.declared.instruction.LogicalOp.TheVariants.{And, Or, Xor, Nand, Nor, Equivalent, AndComplement, OrComplement}
use Rattle.ppc_alu.specs.declared.condition.CrOp.{CrOp}
use Rattle.ppc_alu.specs.declared.condition.CrOp.TheVariants.{And as CrAnd, Or as CrOr, Xor as CrXor, Nand as CrNand, Nor as CrNor, Eqv, Andc, Orc}
use Rattle.ppc_alu.specs.Masks.{number_of}
use Rattle.ppc_alu.specs.ConditionBits.{combined, compared}
use Rattle.ppc_integer.specs.Condition.{bit_of, field_of, with_bit, with_field}
use Rattle.ppc_integer.specs.Rotate.{inserted}
use Rattle.ppc_integer.specs.Xer.{so_of, top_of, without_top}
use Rattle.ppc_integer.specs.File.{gpr_of, with_gpr}
use Rattle.ppc_integer.specs.Arithmetic.{immediate_of}

-- the comparison of two words, and SO, in a field of the condition register
abbrev pub compare_words : RegsPpc → Bool → ℕ → ℕ → ℕ → RegsPpc
compare_words r signed field x y = record r { cr = with_field r.cr field (compared signed x y (so_of r.xer)) }

abbrev pub compare_registers : RegsPpc → Bool → ℕ → ℕ → ℕ → RegsPpc
compare_registers r signed field a b = compare_words r signed field (gpr_of r a) (gpr_of r b)

abbrev pub compare_immediate : RegsPpc → Bool → ℕ → ℕ → ℕ → RegsPpc
compare_immediate r signed field a i = compare_words r signed field (gpr_of r a) (if signed then immediate_of i else i)

abbrev pub move_condition_field : RegsPpc → ℕ → ℕ → RegsPpc
move_condition_field r field from = record r { cr = with_field r.cr field (field_of r.cr from) }

-- what the instructions from crand to crxor do with two bits
abbrev pub cr_op : LogicalOp → CrOp
cr_op And = CrAnd
cr_op Or = CrOr
cr_op Xor = CrXor
cr_op Nand = CrNand
cr_op Nor = CrNor
cr_op Equivalent = Eqv
cr_op AndComplement = Andc
cr_op OrComplement = Orc

abbrev pub condition_logical : RegsPpc → LogicalOp → ℕ → ℕ → ℕ → RegsPpc
condition_logical r op d a b = record r { cr = with_bit r.cr d (combined (cr_op op) (bit_of r.cr a) (bit_of r.cr b)) }

abbrev pub move_from_condition_register : RegsPpc → ℕ → RegsPpc
move_from_condition_register r d = with_gpr r d r.cr

-- the places of the condition register whose fields a mask of eight bits names, the first bit for field 0
abbrev pub field_mask_of : ℕ → ℕ
field_mask_of fields = number_of 32 (λ place. digit_of fields (7 - place / 4) 1 == 1)

-- the fields that the mask names are those of register S
abbrev pub move_to_condition_fields : RegsPpc → ℕ → ℕ → RegsPpc
move_to_condition_fields r mask s = record r { cr = inserted (field_mask_of mask) (gpr_of r s) r.cr }

abbrev pub move_xer_to_condition_field : RegsPpc → ℕ → RegsPpc
move_xer_to_condition_field r field = record r { cr = with_field r.cr field (top_of r.xer); xer = without_top r.xer }
