-- Laws of names and of signed numbers: each name is in the list, and a number is written with its sign.
use Rattle.std.specs.Prelude.{ℕ, ◌≡◌, ◌+◌, ◌-◌, ◌^◌, ◌<◌, ◌≤◌, ◌∷◌, decimal, true}
use Rattle.ppc_isa.specs.declared.instruction.InstrPpc.{InstrPpc}
use Rattle.ppc_text.specs.Listed.{is_name}
use Rattle.ppc_text.specs.Instructions.{name}
use Rattle.ppc_text.specs.Operands.{signed_text}

-- each instruction's name is in the list
abbrev pub NamesAreListed : Type 0
NamesAreListed = (i : InstrPpc) → is_name (name i) ≡ true

-- sixteen bits below 2 ^ 15 are written as they are, and others as what is missing to 2 ^ 16 after a minus sign
abbrev pub PositiveTexts : Type 0
PositiveTexts = (n : ℕ) → n < 2 ^ 15 → signed_text n ≡ decimal n

abbrev pub NegativeTexts : Type 0
NegativeTexts = (n : ℕ) → 2 ^ 15 ≤ n → n < 2 ^ 16 → signed_text n ≡ 45 ∷ decimal (65535 - n + 1)
