-- Rotations under a mask, and shifts (PowerPC 601 RISC Microprocessor User's Manual, chapter 10).
use Rattle.std.specs.Prelude.{ℕ, ◌*◌, ◌-◌, ◌/◌, ◌%◌, ◌^◌, Bool, true, false, bit_and, bit_or}
use Rattle.std.specs.Int.{rotate_left, w32}
use Rattle.ppc_isa.specs.declared.registers.RegsPpc.{RegsPpc}
use Rattle.ppc_isa.specs.declared.instruction.MaskUse.{MaskUse}
use Rattle.ppc_isa.specs.declared.instruction.MaskUse.TheVariants.{Insert, Clear}
use Rattle.ppc_isa.specs.declared.instruction.ShiftOp.{ShiftOp}
use Rattle.ppc_isa.specs.declared.instruction.ShiftOp.TheVariants.{Left, Right, RightAlgebraic}
use Rattle.ppc_alu.specs.Masks.{mask_of}
use Rattle.ppc_alu.specs.Outcomes.{shifted}
use Rattle.ppc_integer.specs.File.{gpr_of, with_result}
use Rattle.ppc_integer.specs.Arithmetic.{with_arith}

-- the bits of one word at the places of a mask, and those of another elsewhere
abbrev pub inserted : ℕ → ℕ → ℕ → ℕ
inserted mask word elsewhere = bit_or (bit_and word mask) (bit_and elsewhere (2 ^ 32 - 1 - mask))

-- outside the mask the bits of register A stay, or are 0
abbrev pub masked : MaskUse → ℕ → ℕ → ℕ → ℕ
masked Insert mask word old = inserted mask word old
masked Clear mask word old = bit_and word mask

abbrev pub rotate_left_immediate : RegsPpc → MaskUse → ℕ → ℕ → ℕ → ℕ → ℕ → Bool → RegsPpc
rotate_left_immediate r outside a s sh mb me rc = with_result r a rc (masked outside (mask_of mb me) (rotate_left w32 (gpr_of r s) sh) (gpr_of r a))

-- the count is the low five bits of register B
abbrev pub rotate_left_register : RegsPpc → ℕ → ℕ → ℕ → ℕ → ℕ → Bool → RegsPpc
rotate_left_register r a s b mb me rc = with_result r a rc (bit_and (rotate_left w32 (gpr_of r s) (gpr_of r b % 32)) (mask_of mb me))

-- a shift of a word by `n` places, where what leaves the word is lost
abbrev pub shifted_left : ℕ → ℕ → ℕ
shifted_left v n = v * 2 ^ n % 2 ^ 32

abbrev pub shifted_right : ℕ → ℕ → ℕ
shifted_right v n = v / 2 ^ n

-- the count is the low six bits of register B, so that all bits may be shifted out
abbrev pub shift : RegsPpc → ShiftOp → ℕ → ℕ → ℕ → Bool → RegsPpc
shift r Left a s b rc = with_result r a rc (shifted_left (gpr_of r s) (gpr_of r b % 64))
shift r Right a s b rc = with_result r a rc (shifted_right (gpr_of r s) (gpr_of r b % 64))
shift r RightAlgebraic a s b rc = with_arith r a true false rc (shifted (gpr_of r s) (gpr_of r b % 64))

abbrev pub shift_right_algebraic_immediate : RegsPpc → ℕ → ℕ → ℕ → Bool → RegsPpc
shift_right_algebraic_immediate r a s sh rc = with_arith r a true false rc (shifted (gpr_of r s) sh)
