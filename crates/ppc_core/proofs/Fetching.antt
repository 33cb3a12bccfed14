-- What a fetch at pc finds.
use Rattle.std.proofs.Common.{◌≡◌, ◌≢◌, ℕ, ◌%◌, ◌==◌, Bool, true, false, Option, Some, None, Err, Ok, arith, refl, sym, ap, ◌∙◌, subst, eq-eqb}
use Rattle.std.proofs.lemmas.Bool.Decides.{nat_tests}
use Rattle.mix_bits.specs.declared.fault.Fault.{Fault}
use Rattle.mix_bits.specs.declared.fault.FaultKind.TheVariants.{Odd}
use Rattle.mix_bits.specs.declared.size.Size.TheVariants.{Four}
use Rattle.mix_bits.specs.Faults.{fault_at}
use Rattle.big_memory.specs.declared.refusals.Access.{Access}
use Rattle.big_memory.specs.declared.steps.Did.{Did}
use Rattle.big_memory.specs.declared.steps.Did.TheVariants.{Next, Leave, Stop}
use Rattle.big_memory.specs.Faults.{fault_of}
use Rattle.big_memory.specs.Map.{in_gate_page, host_code}
use Rattle.big_memory.specs.Memory.{Memory, loaded}
use Rattle.big_memory.specs.StepsClauses.{Does}
use Rattle.big_memory.specs.Steps.After.{Stops}
use Rattle.ppc_isa.specs.declared.registers.RegsPpc.{RegsPpc}
use Rattle.ppc_isa.specs.Rows.{decoded}
use Rattle.ppc_integer.specs.Effects.{at_gate_page, runs_decoded, stepped}
use Rattle.ppc_core.specs.inner.Fetch.{Fetches, IsOfWord}

-- a step that stops
stops : (did : Did) (cell fault : Fault) (r : RegsPpc) (m : Memory) → stepped r m ≡ Stops fault → Does (Stops fault) did cell r r m m → Fetches did cell r m
stops Next cell fault r m is does = absurd (let never = does.0 in cc)
stops Leave cell fault r m is does = is ∙ does.0
stops Stop cell fault r m is does = is ∙ does.0

odd-by : (aligned : Bool) (r : RegsPpc) (m : Memory) → (r.pc % 4 == 0) ≡ aligned → r.pc % 4 ≢ 0 → stepped r m ≡ Stops (fault_at r.pc Odd r.pc)
unfolding stepped
odd-by true r m is odd = absurd (odd (grind (arith, nat_tests, is)))
odd-by false r m is odd = rw is refl

-- at an address that is no multiple of four
pub odd : (did : Did) (cell : Fault) (pc : ℕ) (r : RegsPpc) (m : Memory) → r.pc ≡ pc → pc % 4 ≢ 0 → Does (Stops (fault_at pc Odd pc)) did cell r r m m → Fetches did cell r m
odd did cell pc r m at is does =
    let here : r.pc % 4 ≢ 0 → Does (Stops (fault_at r.pc Odd r.pc)) did cell r r m m → Fetches did cell r m = λ odd does. stops did cell _ r m (odd-by (r.pc % 4 == 0) r m refl odd) does in
    subst (λ p. p % 4 ≢ 0 → Does (Stops (fault_at p Odd p)) did cell r r m m → Fetches did cell r m) at here is does

-- in the gate page
page-is : (r : RegsPpc) (m : Memory) → r.pc % 4 ≡ 0 → in_gate_page r.pc ≡ true → stepped r m ≡ at_gate_page r (host_code r.pc)
unfolding stepped
page-is r m aligned page = rw (eq-eqb (r.pc % 4) 0 aligned, page) refl

page-by : (code : Option ℕ) (did : Did) (cell : Fault) (r : RegsPpc) (m : Memory) → stepped r m ≡ at_gate_page r code → Does (at_gate_page r code) did cell r r m m → Fetches did cell r m
page-by None did cell r m is does = stops did cell _ r m is does
page-by (Some k) Next cell r m is does = absurd (let never = does.0 in cc)
page-by (Some k) Leave cell r m is does = is ∙ does.0
page-by (Some k) Stop cell r m is does = is ∙ does.0

pub page : (did : Did) (cell : Fault) (pc : ℕ) (r : RegsPpc) (m : Memory) → r.pc ≡ pc → pc % 4 ≡ 0 → in_gate_page pc ≡ true → Does (at_gate_page r (host_code r.pc)) did cell r r m m → Fetches did cell r m
page did cell pc r m at aligned is does =
    page-by (host_code r.pc) did cell r m (page-is r m (ap (λ p. p % 4) at ∙ aligned) (ap in_gate_page at ∙ is)) does

-- outside of memory
refused-is : (r : RegsPpc) (m : Memory) (access : Access) → r.pc % 4 ≡ 0 → in_gate_page r.pc ≡ false → loaded m r.pc Four ≡ Err access → stepped r m ≡ Stops (fault_of r.pc access)
unfolding stepped
refused-is r m access aligned page is = rw (eq-eqb (r.pc % 4) 0 aligned, page, is) refl

pub refused : (did : Did) (cell : Fault) (pc : ℕ) (r : RegsPpc) (m : Memory) (access : Access) → r.pc ≡ pc → pc % 4 ≡ 0 → in_gate_page pc ≡ false → loaded m pc Four ≡ Err access
    → Does (Stops (fault_of pc access)) did cell r r m m → Fetches did cell r m
refused did cell pc r m access at aligned page is does =
    let here : r.pc % 4 ≡ 0 → in_gate_page r.pc ≡ false → loaded m r.pc Four ≡ Err access → Does (Stops (fault_of r.pc access)) did cell r r m m → Fetches did cell r m =
    λ aligned page is does. stops did cell _ r m (refused-is r m access aligned page is) does in
    subst (λ p. p % 4 ≡ 0 → in_gate_page p ≡ false → loaded m p Four ≡ Err access → Does (Stops (fault_of p access)) did cell r r m m → Fetches did cell r m) at here aligned page is does

-- a word that lies in memory
word-here : (r : RegsPpc) (m : Memory) (word : ℕ) → r.pc % 4 ≡ 0 → in_gate_page r.pc ≡ false → loaded m r.pc Four ≡ Ok word → IsOfWord r m word
unfolding stepped
word-here r m word aligned page is = rw (eq-eqb (r.pc % 4) 0 aligned, page, is) refl

pub word-is : (pc : ℕ) (r : RegsPpc) (m : Memory) (word : ℕ) → r.pc ≡ pc → pc % 4 ≡ 0 → in_gate_page pc ≡ false → loaded m pc Four ≡ Ok word → IsOfWord r m word
word-is pc r m word at aligned page is =
    word-here r m word (ap (λ p. p % 4) at ∙ aligned) (ap in_gate_page at ∙ page) (ap (λ p. loaded m p Four) at ∙ is)

-- the step of the word that was fetched
pub of-word : (did : Did) (cell : Fault) (r next : RegsPpc) (m n : Memory) (word : ℕ) → IsOfWord r m word → Does (runs_decoded r m word (decoded word)) did cell r next m n → Does (stepped r m) did cell r next m n
of-word did cell r next m n word is does = subst (λ step. Does step did cell r next m n) (sym is) does

-- a step that is done without a word
pub done : (did : Did) (cell : Fault) (r : RegsPpc) (m : Memory) → did ≢ Next → Fetches did cell r m → Does (stepped r m) did cell r r m m
done Next cell r m other is = absurd (other refl)
done Leave cell r m other is = (is, refl, refl)
done Stop cell r m other is = (is, refl, refl)
