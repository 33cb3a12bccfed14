-- The kinds of operands, each with its text (PowerPC 601 RISC Microprocessor User's Manual, chapter 10).
use Rattle.std.specs.Prelude.{ℕ, List, [], ◌∷◌, ◌++◌, codes, decimal, map}
use Rattle.std.specs.Fmt.{signed_decimal}
use Rattle.std.specs.List.{join_with_byte}
use Rattle.mix_bits.specs.Sizes.{signed_of}
use Rattle.mix_bits.specs.Text.{hexadecimal}
use Rattle.mix_bits.specs.declared.size.Size.TheVariants.{Two as TwoBytes}
use Rattle.ppc_isa.specs.declared.instruction.SpecialRegister.{SpecialRegister}
use Rattle.ppc_isa.specs.declared.instruction.SpecialRegister.TheVariants.{Xer, Link, Count}
use Rattle.ppc_text.specs.declared.operand.Operand.{Operand}
use Rattle.ppc_text.specs.declared.operand.Operand.TheVariants.{Register, Number, Signed, Displaced, Target}

abbrev pub register_text : ℕ → List ℕ
register_text n = codes "r" ++ decimal n

-- sixteen bits as a signed number
abbrev pub signed_text : ℕ → List ℕ
signed_text n = signed_decimal (signed_of n TwoBytes)

abbrev pub operand_text : Operand → List ℕ
operand_text (Register n) = register_text n
operand_text (Number n) = decimal n
operand_text (Signed n) = signed_text n
operand_text (Displaced offset base) = signed_text offset ++ codes "(" ++ register_text base ++ codes ")"
operand_text (Target address) = codes "$" ++ hexadecimal 8 address

-- with commas between them
abbrev pub joined : List Operand → List ℕ
joined os = join_with_byte 44 (map operand_text os)

-- after a space, where there are any
abbrev pub operands_text : List Operand → List ℕ
operands_text [] = []
operands_text (o ∷ os) = codes " " ++ joined (o ∷ os)

abbrev pub special_number : SpecialRegister → ℕ
special_number Xer = 1
special_number Link = 8
special_number Count = 9
