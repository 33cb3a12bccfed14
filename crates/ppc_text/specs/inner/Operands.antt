-- The operands of an instruction as a list.
use Rattle.std.specs.Prelude.{List, [], ◌∷◌}
use Rattle.ppc_text.specs.declared.operand.Operand.{Operand}
use Rattle.ppc_text.specs.declared.operand.Operands.{Operands}
use Rattle.ppc_text.specs.declared.operand.Operands.TheVariants.{None as NoOperand, One, Two, Three, Four, Five}

-- operands as a list
abbrev pub listed : Operands → List Operand
listed NoOperand = []
listed (One a) = a ∷ []
listed (Two a b) = a ∷ b ∷ []
listed (Three a b c) = a ∷ b ∷ c ∷ []
listed (Four a b c d) = a ∷ b ∷ c ∷ d ∷ []
listed (Five a b c d e) = a ∷ b ∷ c ∷ d ∷ e ∷ []
