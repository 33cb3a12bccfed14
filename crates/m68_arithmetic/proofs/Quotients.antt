-- Divisions of longs. One by a number that is not 0 goes on: no registers are put back.
use Rattle.std.proofs.Common.{◌≡◌, ◌≢◌, ℕ, ◌+◌, ◌*◌, ◌^◌, Bool, true, false, ◌&&◌, nat_eq, if◌then◌else◌, List, slice_index, Option, Some, None, ap, sym, subst, ◌∙◌}
use Rattle.std.proofs.lemmas.Bool.{ne_eqb}
use Rattle.mix_bits.specs.declared.fault.Fault.{Fault}
use Rattle.mix_bits.specs.declared.fault.FaultKind.TheVariants.{Illegal}
use Rattle.mix_bits.specs.declared.size.Size.TheVariants.{Four}
use Rattle.mix_bits.specs.Addresses.{onward}
use Rattle.mix_bits.specs.Sizes.{truncated}
use Rattle.m68_isa.specs.declared.registers.Ccr.{Ccr}
use Rattle.m68_isa.specs.declared.registers.Regs68.{Regs68}
use Rattle.m68_isa.specs.declared.operand.Operand.{Operand}
use Rattle.m68_isa.specs.Operands.{operand_at}
use Rattle.m68_isa.specs.Products.{high_of, is_register_word, is_signed, is_wide, low_of}
use Rattle.m68_alu.specs.declared.quotients.LongQuotient.TheVariants.{ByZero}
use Rattle.m68_alu.specs.Products.{long_answer, long_divided, long_quotient}
use Rattle.big_memory.specs.declared.steps.Did.{Did}
use Rattle.big_memory.specs.declared.steps.Did.TheVariants.{Next, Leave, Stop}
use Rattle.big_memory.specs.Memory.{Memory}
use Rattle.big_memory.specs.Steps.{After}
use Rattle.big_memory.specs.StepsClauses.{Does}
use Rattle.m68_effects.specs.Arithmetic.{dividend_high, long_quotient_into}
use Rattle.m68_effects.specs.inner.Rows.{div_long}
use Rattle.m68_effects.specs.laws.Operations.{runs_with}
use Rattle.m68_effects.specs.Parts.{after}
use Rattle.m68_effects.specs.Step.{stops}

-- from which registers such a step begins is no matter
goes_from : (r q n : Regs68) (m : Memory) (next high low : ℕ) (old : Ccr) (answer : Option (ℕ × ℕ)) (did : Did) (cell : Fault)
    → Does (after (long_quotient_into q m next high low (long_answer old answer))) did cell q n m m
    → Does (after (long_quotient_into q m next high low (long_answer old answer))) did cell r n m m
goes_from r q n m next high low old None Next cell h = h
goes_from r q n m next high low old None Leave cell h = absurd (let e = h.0 in cc)
goes_from r q n m next high low old None Stop cell h = absurd (let e = h.0 in cc)
goes_from r q n m next high low old (Some (quotient, remainder)) Next cell h = h
goes_from r q n m next high low old (Some (quotient, remainder)) Leave cell h = absurd (let e = h.0 in cc)
goes_from r q n m next high low old (Some (quotient, remainder)) Stop cell h = absurd (let e = h.0 in cc)

-- a step that divides registers q, which have the program counter and the condition codes of r
pub by_divisor : (r q n : Regs68) (m : Memory) (next high low : ℕ) (signed : Bool) (above below by : ℕ) (step : After Regs68) (did : Did) (cell : Fault)
    → by ≢ 0 → q.pc ≡ r.pc → q.ccr ≡ r.ccr
    → step ≡ after (long_quotient_into q m (onward r.pc (2 * next)) high low (long_divided signed above below by r.ccr))
    → Does (after (long_quotient_into q m (onward q.pc (2 * next)) high low (long_divided signed above below by q.ccr))) did cell q n m m
    → Does step did cell r n m m
by_divisor r q n m next high low signed above below by step did cell some pc ccr is does =
    let answer : Option (ℕ × ℕ) = long_quotient signed (above * 2 ^ 32 + below) by in
    let not_zero : nat_eq by 0 ≡ false = ne_eqb by 0 some in
    let done = subst (λ b. Does (after (long_quotient_into q m (onward q.pc (2 * next)) high low (if b then ByZero else long_answer q.ccr answer))) did cell q n m m) not_zero does in
    let back : step ≡ after (long_quotient_into q m (onward q.pc (2 * next)) high low (long_answer q.ccr answer)) =
    is ∙ (λ i. after (long_quotient_into q m (onward (sym pc i) (2 * next)) high low (long_divided signed above below by (sym ccr i))))
    ∙ ap (λ b. after (long_quotient_into q m (onward q.pc (2 * next)) high low (if b then ByZero else long_answer q.ccr answer))) not_zero in
    subst (λ s. Does s did cell r n m m) (sym back) (goes_from r q n m (onward q.pc (2 * next)) high low q.ccr answer did cell done)

-- the step by an operand, with the word of the registers
abbrev division : Regs68 → Memory → ℕ → Operand → ℕ → After Regs68
division r m word by w =
    if is_register_word w && by.good then after (div_long r m (onward r.pc (2 * by.next)) (is_signed w) (is_wide w) by.ea (high_of w) (low_of w)) else stops r Illegal word

-- the word, known as `named`, names no registers
pub no_registers : (r : Regs68) (m : Memory) (word : ℕ) (by : Operand) (w named : ℕ) (did : Did) (cell : Fault)
    → w ≡ named → is_register_word w ≡ false → Does (stops r Illegal word) did cell r r m m → Does (division r m word by named) did cell r r m m
no_registers r m word by w named did cell same bad does =
    let row : After Regs68 = after (div_long r m (onward r.pc (2 * by.next)) (is_signed w) (is_wide w) by.ea (high_of w) (low_of w)) in
    subst (λ x. Does (division r m word by x) did cell r r m m) same
    (subst (λ b. Does (if b && by.good then row else stops r Illegal word) did cell r r m m) (sym bad) does)

-- it names registers
pub by_registers : (r n : Regs68) (m : Memory) (word : ℕ) (by : Operand) (w named : ℕ) (did : Did) (cell : Fault)
    → w ≡ named → is_register_word w ≡ true → Does (runs_with r word by (λ next. div_long r m next (is_signed w) (is_wide w) by.ea (high_of w) (low_of w))) did cell r n m m
    → Does (division r m word by named) did cell r n m m
by_registers r n m word by w named did cell same good does =
    let row : After Regs68 = after (div_long r m (onward r.pc (2 * by.next)) (is_signed w) (is_wide w) by.ea (high_of w) (low_of w)) in
    subst (λ x. Does (division r m word by x) did cell r n m m) same
    (subst (λ b. Does (if b && by.good then row else stops r Illegal word) did cell r n m m) (sym good) does)

-- the operand is the data register `lower`, whose long is `number`
pub by_register : (r n : Regs68) (m : Memory) (ws : List ℕ) (word mode lower number w named : ℕ) (did : Did) (cell : Fault)
    → w ≡ named → is_register_word w ≡ true → 0 ≡ mode → number ≡ truncated (slice_index r.d lower) Four
    → Does (after (long_quotient_into r m (onward r.pc (2 * 2)) (high_of w) (low_of w) (long_divided (is_signed w) (dividend_high (is_signed w) (is_wide w) (slice_index r.d (high_of w)) (slice_index r.d (low_of w))) (slice_index r.d (low_of w)) number r.ccr))) did cell r n m m
    → Does (division r m word (operand_at ws 2 Four mode lower) named) did cell r n m m
by_register r n m ws word mode lower number w named did cell same good moded value does =
    let low : ℕ = slice_index r.d (low_of w) in
    let above : ℕ = dividend_high (is_signed w) (is_wide w) (slice_index r.d (high_of w)) low in
    let done = subst (λ x. Does (after (long_quotient_into r m (onward r.pc (2 * 2)) (high_of w) (low_of w) (long_divided (is_signed w) above low x r.ccr))) did cell r n m m) value does in
    by_registers r n m word (operand_at ws 2 Four mode lower) w named did cell same good
    (subst (λ x. Does (runs_with r word (operand_at ws 2 Four x lower) (λ next. div_long r m next (is_signed w) (is_wide w) (operand_at ws 2 Four x lower).ea (high_of w) (low_of w))) did cell r n m m) moded done)
