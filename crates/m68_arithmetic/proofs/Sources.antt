-- Rows that read the operand of a first word, whose mode and register are known as `mode` and `lower`, and that may stop
-- behind it.
use Rattle.std.proofs.Common.{◌≡◌, ℕ, ◌*◌, Some, None, refl, sym, subst}
use Rattle.mix_bits.specs.declared.size.Size.{Size}
use Rattle.mix_bits.specs.declared.fault.Fault.{Fault}
use Rattle.mix_bits.specs.Addresses.{onward}
use Rattle.mix_bits.specs.Results.{◌>>=◌}
use Rattle.m68_isa.specs.declared.registers.Regs68.{Regs68}
use Rattle.m68_isa.specs.First.{first_of}
use Rattle.m68_isa.specs.Operands.{operand_at}
use Rattle.big_memory.specs.declared.steps.Did.{Did}
use Rattle.big_memory.specs.declared.steps.Did.TheVariants.{Stop}
use Rattle.big_memory.specs.Memory.{Memory}
use Rattle.big_memory.specs.Steps.{After}
use Rattle.big_memory.specs.StepsClauses.{Does}
use Rattle.big_memory.specs.Steps.After.{Stops}
use Rattle.m68_ea.specs.FindsClauses.{Takes}
use Rattle.m68_ea.specs.Operands.{sourced}
use Rattle.m68_ea.specs.Words.{words_at}
use Rattle.m68_effects.specs.laws.Operations.{runs_with}
use Rattle.m68_effects.specs.Parts.{Effect, after}
use Rattle.m68_effects.proofs.Steps.{operand_is, refused, taken}

abbrev pub reading : Regs68 → Memory → ℕ → Size → (ℕ → Regs68 × ℕ → Effect) → After Regs68
reading r m word s row =
    let from = operand_at (words_at m r.pc) 1 s (first_of word).mode (first_of word).lower in
    runs_with r word from (λ next. sourced r m s from.ea >>= row next)

pub unread : (r q : Regs68) (m : Memory) (word : ℕ) (s : Size) (mode lower next : ℕ) (row : ℕ → Regs68 × ℕ → Effect) (cell : Fault)
    → mode ≡ (first_of word).mode → lower ≡ (first_of word).lower → Takes r m word s (operand_at (words_at m r.pc) 1 s mode lower) None next cell q → Does (reading r m word s row) Stop cell r q m m
unread r q m word s mode lower next row cell moded lowered took =
    let f = first_of word in
    let same = operand_is (words_at m r.pc) s 1 1 mode f.mode lower f.lower refl moded lowered in
    (refused r m word s (operand_at (words_at m r.pc) 1 s mode lower) (operand_at (words_at m r.pc) 1 s f.mode f.lower) row cell same took.0, took.1, refl)

pub read : (r q : Regs68) (m : Memory) (word : ℕ) (s : Size) (mode lower v next : ℕ) (row : ℕ → Regs68 × ℕ → Effect) (cell : Fault)
    → mode ≡ (first_of word).mode → lower ≡ (first_of word).lower → Takes r m word s (operand_at (words_at m r.pc) 1 s mode lower) (Some v) next cell q
    → reading r m word s row ≡ after (row (onward r.pc (2 * next)) (q, v))
read r q m word s mode lower v next row cell moded lowered took =
    let f = first_of word in
    let same = operand_is (words_at m r.pc) s 1 1 mode f.mode lower f.lower refl moded lowered in
    taken r q m word s (operand_at (words_at m r.pc) 1 s mode lower) (operand_at (words_at m r.pc) 1 s f.mode f.lower) v next row same took.0 took.1 took.2

-- it stops with the registers put back
pub stops_back : (r back : Regs68) (m : Memory) (step : After Regs68) (did : Did) (fault cell : Fault)
    → step ≡ Stops fault → back ≡ r → Does (Stops fault) did cell back back m m → Does step did cell r back m m
stops_back r back m step did fault cell steps same stops =
    subst (λ x. Does x did cell r back m m) (sym steps) (subst (λ x. Does (Stops fault) did cell x back m m) same stops)
