-- Sums, differences, products and quotients
-- (PowerPC 601 RISC Microprocessor User's Manual, chapter 10, the instructions from add to subfze).
use Rattle.std.specs.Prelude.{ℕ, ◌-◌, ◌*◌, ◌^◌, Bool, true, false, if◌then◌else◌, slice_set}
use Rattle.mix_bits.specs.Sizes.{sign_extended}
use Rattle.mix_bits.specs.declared.size.Size.TheVariants.{Two}
use Rattle.mix_bits.specs.Addresses.{onward}
use Rattle.ppc_isa.specs.declared.registers.RegsPpc.{RegsPpc}
use Rattle.ppc_isa.specs.declared.instruction.CarryUse.{CarryUse}
use Rattle.ppc_isa.specs.declared.instruction.CarryUse.TheVariants.{Plain, Carrying, Extended}
use Rattle.ppc_isa.specs.declared.instruction.ExtendedOperand.{ExtendedOperand}
use Rattle.ppc_isa.specs.declared.instruction.ExtendedOperand.TheVariants.{Zero, MinusOne}
use Rattle.ppc_alu.specs.declared.arith.Arith.{Arith}
use Rattle.ppc_alu.specs.Outcomes.{added, divided, high_product, multiplied}
use Rattle.ppc_integer.specs.Xer.{ca_of, with_ca, with_overflow}
use Rattle.ppc_integer.specs.File.{base_of, complement, gpr_of, recorded, with_gpr, with_result}

-- sixteen bits as a signed number
abbrev pub immediate_of : ℕ → ℕ
immediate_of i = sign_extended i Two

-- a result goes to register D, its carry to CA where the instruction sets CA, its overflow to OV and SO
-- where OE is set
abbrev pub with_arith : RegsPpc → ℕ → Bool → Bool → Bool → Arith → RegsPpc
with_arith r d sets_ca oe rc result =
    let carried = if sets_ca then with_ca r.xer result.ca else r.xer in
    recorded rc result.value (record r { gpr = slice_set r.gpr d result.value; xer = if oe then with_overflow carried result.ov else carried })

-- the extended forms take CA into the sum, the others what the operation takes
abbrev pub carry_into : RegsPpc → CarryUse → Bool → Bool
carry_into r Extended carry = ca_of r.xer
carry_into r Plain carry = carry
carry_into r Carrying carry = carry

abbrev pub sets_ca : CarryUse → Bool
sets_ca Plain = false
sets_ca Carrying = true
sets_ca Extended = true

abbrev pub operand_of : ExtendedOperand → ℕ
operand_of Zero = 0
operand_of MinusOne = 2 ^ 32 - 1

abbrev pub add : RegsPpc → CarryUse → ℕ → ℕ → ℕ → Bool → Bool → RegsPpc
add r carry d a b oe rc = with_arith r d (sets_ca carry) oe rc (added (gpr_of r a) (gpr_of r b) (carry_into r carry false))

abbrev pub add_extended : RegsPpc → ExtendedOperand → ℕ → ℕ → Bool → Bool → RegsPpc
add_extended r operand d a oe rc = with_arith r d true oe rc (added (gpr_of r a) (operand_of operand) (ca_of r.xer))

-- a difference is the sum of the complement, the other operand, and 1
abbrev pub subtract_from : RegsPpc → CarryUse → ℕ → ℕ → ℕ → Bool → Bool → RegsPpc
subtract_from r carry d a b oe rc = with_arith r d (sets_ca carry) oe rc (added (complement (gpr_of r a)) (gpr_of r b) (carry_into r carry true))

abbrev pub subtract_from_extended : RegsPpc → ExtendedOperand → ℕ → ℕ → Bool → Bool → RegsPpc
subtract_from_extended r operand d a oe rc = with_arith r d true oe rc (added (complement (gpr_of r a)) (operand_of operand) (ca_of r.xer))

abbrev pub negate : RegsPpc → ℕ → ℕ → Bool → Bool → RegsPpc
negate r d a oe rc = with_arith r d false oe rc (added (complement (gpr_of r a)) 0 true)

abbrev pub multiply_low : RegsPpc → ℕ → ℕ → ℕ → Bool → Bool → RegsPpc
multiply_low r d a b oe rc = with_arith r d false oe rc (multiplied (gpr_of r a) (gpr_of r b))

abbrev pub multiply_high : RegsPpc → Bool → ℕ → ℕ → ℕ → Bool → RegsPpc
multiply_high r signed d a b rc = with_result r d rc (high_product signed (gpr_of r a) (gpr_of r b))

abbrev pub divide : RegsPpc → Bool → ℕ → ℕ → ℕ → Bool → Bool → RegsPpc
divide r signed d a b oe rc = with_arith r d false oe rc (divided signed (gpr_of r a) (gpr_of r b))

abbrev pub add_immediate : RegsPpc → Bool → ℕ → ℕ → ℕ → RegsPpc
add_immediate r shifted d a i = with_gpr r d (onward (base_of r a) (if shifted then i * 2 ^ 16 else immediate_of i))

abbrev pub add_immediate_carrying : RegsPpc → Bool → ℕ → ℕ → ℕ → RegsPpc
add_immediate_carrying r rc d a i = with_arith r d true false rc (added (gpr_of r a) (immediate_of i) false)

abbrev pub subtract_from_immediate_carrying : RegsPpc → ℕ → ℕ → ℕ → RegsPpc
subtract_from_immediate_carrying r d a i = with_arith r d true false false (added (complement (gpr_of r a)) (immediate_of i) true)

abbrev pub multiply_low_immediate : RegsPpc → ℕ → ℕ → ℕ → RegsPpc
multiply_low_immediate r d a i = with_gpr r d ((multiplied (gpr_of r a) (immediate_of i)).value)
