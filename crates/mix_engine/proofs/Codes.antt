-- The tests of a step in the order of the definition, from a body that asks for the gate page first.
use Rattle.std.proofs.Common.{◌≡◌, ◌≢◌, ℕ, ◌-◌, ◌/◌, ◌%◌, ◌<◌, ◌^◌, ◌==◌, ◌&&◌, nat_le, nat_lt, Bool, true, false, if◌then◌else◌, Some, None, arith, refl, sym, ap, ◌∙◌, eq-eqb}
use Rattle.std.proofs.lemmas.Bool.Decides.{nat_tests}
use Rattle.mix_bits.specs.declared.isa.Isa.{Isa}
use Rattle.mix_bits.specs.declared.isa.Isa.TheVariants.{M68 as set_m68, Ppc as set_ppc}
use Rattle.mix_bits.specs.declared.fault.Fault.{Fault}
use Rattle.mix_bits.specs.declared.fault.FaultKind.TheVariants.{GateFetch}
use Rattle.m68_isa.specs.declared.registers.Regs68.{Regs68}
use Rattle.ppc_isa.specs.declared.registers.RegsPpc.{RegsPpc}
use Rattle.big_memory.specs.declared.steps.Did.{Did}
use Rattle.big_memory.specs.declared.steps.Did.TheVariants.{Next as IsNext, Leave as IsLeave, Stop as IsStop}
use Rattle.mix_bits.specs.Faults.{fault_at}
use Rattle.big_memory.specs.Map.{is_gate, in_gate_page, host_code, host_code_at, host_functions}
use Rattle.big_memory.specs.Memory.{Memory}
use Rattle.big_memory.specs.Steps.{After}
use Rattle.big_memory.specs.Steps.After.{Goes as GoesOn, Leaves, Stops}
use Rattle.m68_effects.specs.Step.{stepped as stepped_68k}
use Rattle.ppc_integer.specs.Effects.{stepped as stepped_ppc}
use Rattle.switch_frame.specs.declared.active.Active.{Active}
use Rattle.switch_frame.specs.declared.active.Active.TheVariants.{M68, Ppc}
use Rattle.toolbox.specs.Effects.{Around}
use Rattle.mixed_machine.specs.declared.body.Body.{Body}
use Rattle.mixed_machine.specs.State.{with_seen, with_active}
use Rattle.mixed_machine.specs.Next.{quiet}
use Rattle.mixed_machine.specs.Next.Next.{Goes}
use Rattle.mixed_machine.specs.Leave.{at_gate}
use Rattle.mixed_machine.specs.Step.{step, step_68k, step_ppc, after_68k, after_ppc}
use Rattle.mixed_machine.specs.Machine.{flat}
use Rattle.mixed_machine.specs.inner.Machine.{seen_of}
use Rattle.mix_engine.specs.declared.code.Code.{Code}
use Rattle.mix_engine.specs.declared.code.Code.TheVariants.{Next as Goes_on, Leave, Stop}
use Rattle.mix_engine.specs.inner.Changes.{IsChanged}
use Rattle.mix_engine.specs.inner.Cores.{CoreSteps, Codes, stopped_at}

-- outside the gate page there is no gate
pub no-gate : (a : ℕ) → in_gate_page a ≡ false → is_gate a ≡ false
no-gate a outside = grind (arith, nat_tests)

-- the number of a host function
host-below : (a k : ℕ) (found : Bool) → (if found then Some ((a - host_code_at 0) / 4) else None) ≡ Some k
    → (nat_le (host_code_at 0) a && nat_lt a (host_code_at host_functions) && a % 4 == 0) ≡ found → k < host_functions
host-below a k true is test = let same : (a - host_code_at 0) / 4 ≡ k = cc in let below : a < host_code_at host_functions = grind (arith, nat_tests) in omega arith
host-below a k false is test = cc

pub host-number : (a k : ℕ) → host_code a ≡ Some k → k < host_functions
host-number a k is = host-below a k _ is refl

-- 68K code outside the gate page does an instruction, at an odd address too
outside-by_68k : (b : Body) (r : Regs68) (around : Around) (odd : Bool) → (r.pc % 2 == 1) ≡ odd → is_gate r.pc ≡ false → in_gate_page r.pc ≡ false
    → step (flat b (M68 r) around) ≡ after_68k (flat b (M68 r) around) r (stepped_68k r (seen_of b))
unfolding step step_68k stepped_68k
outside-by_68k b r around true is gate page = rw is refl
outside-by_68k b r around false is gate page = rw (is, gate, page) refl

outside-68k : (b : Body) (r : Regs68) (around : Around) → in_gate_page r.pc ≡ false → step (flat b (M68 r) around) ≡ after_68k (flat b (M68 r) around) r (stepped_68k r (seen_of b))
outside-68k b r around page = outside-by_68k b r around (r.pc % 2 == 1) refl (no-gate r.pc page) page

-- PowerPC code alike
outside-by_ppc : (b : Body) (r : RegsPpc) (around : Around) (aligned : Bool) → (r.pc % 4 == 0) ≡ aligned → is_gate r.pc ≡ false
    → step (flat b (Ppc r) around) ≡ after_ppc (flat b (Ppc r) around) r (stepped_ppc r (seen_of b))
unfolding step step_ppc stepped_ppc
outside-by_ppc b r around true is gate = rw (is, gate) refl
outside-by_ppc b r around false is gate = rw is refl

outside-ppc : (b : Body) (r : RegsPpc) (around : Around) → is_gate r.pc ≡ false → step (flat b (Ppc r) around) ≡ after_ppc (flat b (Ppc r) around) r (stepped_ppc r (seen_of b))
outside-ppc b r around gate = outside-by_ppc b r around (r.pc % 4 == 0) refl gate

-- the state behind an instruction
state-behind : (b new : Body) (set : Isa) (before after : Active) (around : Around) → IsChanged b new set → new.heap ≡ b.heap
    → with_seen new.ram (with_active after (flat b before around)) ≡ flat new after around
state-behind b new set before after around changed heap =
    sym (changed.state before after around around ∙ ap (λ h. record (with_seen new.ram (flat b before around)) { active = after; heap = h; around = around }) heap)

abbrev code_of : Did → Code
code_of IsNext = Goes_on
code_of IsLeave = Leave
code_of IsStop = Stop

-- what the instruction did is what the code did
pub code-68k : (did : Did) (cell : Fault) (r next : Regs68) (b new : Body) → in_gate_page r.pc ≡ false → (did ≡ IsLeave → cell.detail < 2 ^ 16)
    → CoreSteps (stepped_68k r (seen_of b)) did cell r next b new set_m68 → Codes (code_of did) cell (M68 r) (M68 next) b new
code-68k IsNext cell r next b new page line does = (
  λ around. outside-68k b r around page
      ∙ (ap (after_68k (flat b (M68 r) around) r) does.0 ∙ ap (λ s. Goes s quiet) (state-behind b new set_m68 (M68 r) (M68 next) around does.1 does.2)),
  does.1.whole,
  does.1.callers,
)
code-68k IsLeave cell r next b new page line does =
    (λ around. outside-68k b r around page ∙ ap (after_68k (flat b (M68 r) around) r) does.0, line refl, ap (λ x. M68 x) does.1, does.2)
code-68k IsStop cell r next b new page line does =
    (λ around. outside-68k b r around page ∙ ap (after_68k (flat b (M68 r) around) r) does.0, ap (λ x. M68 x) does.1, does.2)

pub code-ppc : (did : Did) (cell : Fault) (r next : RegsPpc) (b new : Body) → is_gate r.pc ≡ false → (did ≡ IsLeave → cell.detail < host_functions)
    → CoreSteps (stepped_ppc r (seen_of b)) did cell r next b new set_ppc → Codes (code_of did) cell (Ppc r) (Ppc next) b new
code-ppc IsNext cell r next b new gate number does = (
  λ around. outside-ppc b r around gate
      ∙ (ap (after_ppc (flat b (Ppc r) around) r) does.0 ∙ ap (λ s. Goes s quiet) (state-behind b new set_ppc (Ppc r) (Ppc next) around does.1 does.2)),
  does.1.whole,
  does.1.callers,
)
code-ppc IsLeave cell r next b new gate number does =
    (λ around. outside-ppc b r around gate ∙ ap (after_ppc (flat b (Ppc r) around) r) does.0, number refl, ap (λ x. Ppc x) does.1, does.2)
code-ppc IsStop cell r next b new gate number does =
    (λ around. outside-ppc b r around gate ∙ ap (after_ppc (flat b (Ppc r) around) r) does.0, ap (λ x. Ppc x) does.1, does.2)

-- an instruction at a gate stops
gate-stops : (r : RegsPpc) (m : Memory) → is_gate r.pc ≡ true → stepped_ppc r m ≡ Stops (fault_at r.pc GateFetch r.pc)
unfolding stepped_ppc
gate-stops r m gate =
    let aligned : r.pc % 4 ≡ 0 = grind (arith, nat_tests) in
    let page : in_gate_page r.pc ≡ true = grind (arith, nat_tests) in
    let below : nat_le (host_code_at 0) r.pc ≡ false = grind (arith, nat_tests) in
    rw (eq-eqb (r.pc % 4) 0 aligned, page, below) refl

no-gate-by : (gate : Bool) (r : RegsPpc) (m : Memory) (did : After RegsPpc) → is_gate r.pc ≡ gate → stepped_ppc r m ≡ did → ((f : Fault) → did ≢ Stops f) → gate ≡ false
no-gate-by true r m did gate is other = absurd (other _ (sym is ∙ gate-stops r m gate))
no-gate-by false r m did gate is other = refl

-- where one goes on, or leaves for the host, there is none
pub no-gate-goes : (r next : RegsPpc) (m n : Memory) → stepped_ppc r m ≡ GoesOn next n → is_gate r.pc ≡ false
no-gate-goes r next m n is = no-gate-by _ r m _ refl is (λ f same. cc)

pub no-gate-leaves : (r : RegsPpc) (m : Memory) (k : ℕ) → stepped_ppc r m ≡ Leaves k → is_gate r.pc ≡ false
no-gate-leaves r m k is = no-gate-by _ r m _ refl is (λ f same. cc)

gate-by : (b : Body) (r : RegsPpc) (around : Around) → r.pc % 4 ≡ 0 → is_gate r.pc ≡ true → step (flat b (Ppc r) around) ≡ at_gate (flat b (Ppc r) around)
unfolding step step_ppc
gate-by b r around aligned gate = rw (eq-eqb (r.pc % 4) 0 aligned, gate) refl

-- where one stopped
pub stopped-ppc : (gate : Bool) (cell : Fault) (r next : RegsPpc) (b new : Body) → is_gate r.pc ≡ gate → CoreSteps (stepped_ppc r (seen_of b)) IsStop cell r next b new set_ppc
    → Codes (stopped_at gate) cell (Ppc r) (Ppc next) b new
stopped-ppc true cell r next b new gate does =
    let aligned : r.pc % 4 ≡ 0 = grind (arith, nat_tests) in
    (λ around. gate-by b r around aligned gate, ap (λ x. Ppc x) does.1, does.2)
stopped-ppc false cell r next b new gate does = code-ppc IsStop cell r next b new gate (λ never. cc) does
