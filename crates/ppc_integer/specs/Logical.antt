-- Logic of words (PowerPC 601 RISC Microprocessor User's Manual, chapter 10).
use Rattle.std.specs.Prelude.{ℕ, ◌*◌, ◌^◌, Bool, true, false, bit_and, bit_or, bit_xor}
use Rattle.std.specs.Int.{leading_zeros, w32}
use Rattle.mix_bits.specs.Sizes.{sign_extended}
use Rattle.mix_bits.specs.declared.size.Size.TheVariants.{One, Two}
use Rattle.ppc_isa.specs.declared.registers.RegsPpc.{RegsPpc}
use Rattle.ppc_isa.specs.declared.instruction.ImmediateOp.{ImmediateOp}
use Rattle.ppc_isa.specs.declared.instruction.ImmediateOp.TheVariants.{Or as ImmediateOr, OrShifted, Xor as ImmediateXor, XorShifted, And as ImmediateAnd, AndShifted}
use Rattle.ppc_isa.specs.declared.instruction.LogicalOp.{LogicalOp}
use Rattle.ppc_isa.specs.declared.instruction.LogicalOp.TheVariants.{And, Or, Xor, Nand, Nor, Equivalent, AndComplement, OrComplement}
use Rattle.ppc_isa.specs.declared.instruction.UnaryOp.{UnaryOp}
use Rattle.ppc_isa.specs.declared.instruction.UnaryOp.TheVariants.{ExtendSignByte, ExtendSignHalf, CountLeadingZeros}
use Rattle.ppc_integer.specs.File.{complement, gpr_of, with_result}

-- a word combined with sixteen bits, which the shifted forms take as the upper half of a word
abbrev pub combined_immediate : ImmediateOp → ℕ → ℕ → ℕ
combined_immediate ImmediateOr s i = bit_or s i
combined_immediate OrShifted s i = bit_or s (i * 2 ^ 16)
combined_immediate ImmediateXor s i = bit_xor s i
combined_immediate XorShifted s i = bit_xor s (i * 2 ^ 16)
combined_immediate ImmediateAnd s i = bit_and s i
combined_immediate AndShifted s i = bit_and s (i * 2 ^ 16)

-- of these only the and forms record
abbrev pub records : ImmediateOp → Bool
records ImmediateOr = false
records OrShifted = false
records ImmediateXor = false
records XorShifted = false
records ImmediateAnd = true
records AndShifted = true

abbrev pub combined_words : LogicalOp → ℕ → ℕ → ℕ
combined_words And s b = bit_and s b
combined_words Or s b = bit_or s b
combined_words Xor s b = bit_xor s b
combined_words Nand s b = complement (bit_and s b)
combined_words Nor s b = complement (bit_or s b)
combined_words Equivalent s b = complement (bit_xor s b)
combined_words AndComplement s b = bit_and s (complement b)
combined_words OrComplement s b = bit_or s (complement b)

abbrev pub unary_of : UnaryOp → ℕ → ℕ
unary_of ExtendSignByte s = sign_extended s One
unary_of ExtendSignHalf s = sign_extended s Two
unary_of CountLeadingZeros s = leading_zeros w32 s

abbrev pub logical_immediate : RegsPpc → ImmediateOp → ℕ → ℕ → ℕ → RegsPpc
logical_immediate r op a s i = with_result r a (records op) (combined_immediate op (gpr_of r s) i)

abbrev pub logical : RegsPpc → LogicalOp → ℕ → ℕ → ℕ → Bool → RegsPpc
logical r op a s b rc = with_result r a rc (combined_words op (gpr_of r s) (gpr_of r b))

abbrev pub unary : RegsPpc → UnaryOp → ℕ → ℕ → Bool → RegsPpc
unary r op a s rc = with_result r a rc (unary_of op (gpr_of r s))
