-- A step that writes a value v, known as w, into an operand `e`, known as `made`, and what it makes of the registers.
use Rattle.std.proofs.Common.{◌≡◌, ℕ, ◌*◌, true, if◌then◌else◌, Ok, Err, ap, subst, sym, ◌∙◌}
use Rattle.mix_bits.specs.declared.size.Size.{Size}
use Rattle.mix_bits.specs.declared.fault.Fault.{Fault}
use Rattle.mix_bits.specs.declared.fault.FaultKind.TheVariants.{Illegal}
use Rattle.mix_bits.specs.Addresses.{onward}
use Rattle.mix_bits.specs.Results.{◌>>=◌}
use Rattle.m68_isa.specs.declared.registers.Regs68.{Regs68}
use Rattle.m68_isa.specs.declared.operand.Operand.{Operand}
use Rattle.big_memory.specs.declared.steps.Did.{Did}
use Rattle.big_memory.specs.declared.steps.Did.TheVariants.{Next}
use Rattle.big_memory.specs.Memory.{Memory}
use Rattle.big_memory.specs.Steps.{After}
use Rattle.big_memory.specs.StepsClauses.{Does}
use Rattle.big_memory.specs.Steps.After.{Goes, Stops}
use Rattle.big_memory.specs.StoresClauses.{OnlyFree}
use Rattle.m68_ea.specs.Operands.{put_into}
use Rattle.m68_ea.specs.Finds.{unless_illegal}
use Rattle.m68_effects.specs.laws.Operations.{runs_with}
use Rattle.m68_effects.specs.Parts.{Effect, after, goes_on}
use Rattle.m68_effects.specs.Step.{stops}
use Rattle.m68_effects.proofs.Steps.{unwritten as unwritten_by}

abbrev pub behind : (Regs68 → Regs68) → ℕ → Regs68 × Memory → Effect
behind turn next put = goes_on next (turn put.0) put.1

abbrev pub writing : Regs68 → Memory → ℕ → Size → (Regs68 → Regs68) → Operand → ℕ → After Regs68
writing r m word s turn e v = runs_with r word e (λ next. put_into r m s e.ea v >>= behind turn next)

pub written : (r q new : Regs68) (m n : Memory) (word next : ℕ) (s : Size) (turn : Regs68 → Regs68) (e made : Operand) (v w : ℕ) (did : Did) (cell : Fault)
    → e ≡ made → v ≡ w → e.good ≡ true → put_into r m s e.ea v ≡ Ok (q, n) → next ≡ e.next → OnlyFree m n → did ≡ Next → new ≡ record (turn q) { pc = onward r.pc (2 * next) }
    → Does (writing r m word s turn made w) did cell r new m n
written r q new m n word next s turn e made v w did cell same value good is last free goes registers =
    let step : writing r m word s turn e v ≡ after (behind turn (onward r.pc (2 * next)) (q, n)) =
    ap (λ b. if b then after (put_into r m s e.ea v >>= behind turn (onward r.pc (2 * e.next))) else stops r Illegal word) good
    ∙ ap (λ x. after (x >>= behind turn (onward r.pc (2 * e.next)))) is
    ∙ ap (λ k. after (behind turn (onward r.pc (2 * k)) (q, n))) (sym last) in
    subst (λ d. Does (writing r m word s turn made w) d cell r new m n) (sym goes)
    ((λ i. writing r m word s turn (sym same i) (sym value i)) ∙ step ∙ ap (λ t. Goes t n) (sym registers), free)

pub unwritten : (r : Regs68) (m : Memory) (word : ℕ) (s : Size) (turn : Regs68 → Regs68) (e made : Operand) (v w : ℕ) (cell : Fault)
    → e ≡ made → v ≡ w → unless_illegal r.pc word e.good (put_into r m s e.ea v) ≡ Err cell → writing r m word s turn made w ≡ Stops cell
unwritten r m word s turn e made v w cell same value is =
    subst (λ x. writing r m word s turn made x ≡ Stops cell) value (unwritten_by r m word s e made v (behind turn) cell same is)
