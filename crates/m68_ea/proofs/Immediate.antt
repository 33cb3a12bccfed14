-- An immediate operand that is taken, and operands of other modes beside it.
use Rattle.std.proofs.Common.{◌≡◌, ℕ, ◌+◌, ◌==◌, ◌||◌, ◌&&◌, ◌⊎◌, inl, inr, Bool, true, false, List, Result, Ok, Some, refl, ap, sym, ◌∙◌}
use Rattle.std.proofs.lemmas.Bool.{ne_eqb}
use Rattle.mix_bits.specs.declared.size.Size.{Size}
use Rattle.mix_bits.specs.declared.fault.Fault.{Fault}
use Rattle.mix_bits.specs.Sizes.{truncated}
use Rattle.m68_isa.specs.declared.registers.Regs68.{Regs68}
use Rattle.m68_isa.specs.declared.ea.Ea.TheVariants.{Imm}
use Rattle.m68_isa.specs.Operands.{immediate_at, immediate_words, operand_at}
use Rattle.big_memory.specs.Memory.{Memory}
use Rattle.m68_ea.specs.Operands.{sourced}
use Rattle.m68_ea.specs.Usual.{TakesUsual, is_usual}

abbrev with_value : Regs68 → ℕ → Result (Regs68 × ℕ) Fault
with_value r v = Ok (r, v)

pub immediate_taken : (r : Regs68) (m : Memory) (ws : List ℕ) (first : ℕ) (s : Size) (mode lower number words v : ℕ)
    → mode ≡ 7 → lower ≡ 4 → number ≡ immediate_at ws first s → words ≡ immediate_words s → v ≡ truncated number s
    → TakesUsual r m first s (operand_at ws first s mode lower) (is_usual mode || (mode == 7 && lower == 4)) (Some v) (first + words) r
immediate_taken r m ws first s mode lower number words v moded lowered is counted cut = (
  (λ i. is_usual (moded i) || (moded i == 7 && lowered i == 4)),
  (λ i. (operand_at ws first s (moded i) (lowered i)).good),
  (λ i. sourced r m s (operand_at ws first s (moded i) (lowered i)).ea) ∙ (λ i. sourced r m s (Imm (sym is i))) ∙ ap (with_value r) (sym cut),
  (λ i. first + counted i) ∙ (λ i. (operand_at ws first s (sym moded i) (sym lowered i)).next),
  record { d = refl; pc = refl; ccr = refl },
)

and-false : (a : Bool) → (a && false) ≡ false
and-false true = refl
and-false false = refl

or-false : (a : Bool) → (a || false) ≡ a
or-false true = refl
or-false false = refl

-- a mode and a register that are no immediate operand's
pub no_immediate : (mode lower : ℕ) → ((mode ≡ 7) × (lower ≡ 4 → ⊥)) ⊎ (mode ≡ 7 → ⊥) → is_usual mode ≡ (is_usual mode || (mode == 7 && lower == 4))
no_immediate mode lower (inl both) = sym ((λ i. is_usual mode || (mode == 7 && ne_eqb lower 4 both.1 i)) ∙ (λ i. is_usual mode || and-false (mode == 7) i) ∙ or-false (is_usual mode))
no_immediate mode lower (inr other) = sym ((λ i. is_usual mode || (ne_eqb mode 7 other i && lower == 4)) ∙ or-false (is_usual mode))
