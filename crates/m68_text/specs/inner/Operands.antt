-- The operands of an instruction as a list.
use Rattle.std.specs.Prelude.{List, [], ◌∷◌}
use Rattle.m68_text.specs.declared.operand.Operand.{Operand}
use Rattle.m68_text.specs.declared.operand.Operands.{Operands}
use Rattle.m68_text.specs.declared.operand.Operands.TheVariants.{None as NoOperand, One as OneOperand, Two as TwoOperands, Three as ThreeOperands}

-- the operands that an instruction has, at most three
abbrev pub listed : Operands → List Operand
listed NoOperand = []
listed (OneOperand o) = o ∷ []
listed (TwoOperands o p) = o ∷ p ∷ []
listed (ThreeOperands o p q) = o ∷ p ∷ q ∷ []
