-- A run of one step.
use Rattle.std.proofs.Common.{◌≡◌, ℕ, suc, Bool, true, false, arith, ap, sym, ◌∙◌}
use Rattle.std.proofs.lemmas.Bool.Decides.{nat_tests}
use Rattle.mix_bits.specs.declared.fault.Fault.{Fault as AFault}
use Rattle.mixed_machine.specs.Exec.{GoesTo, Leads, exec_to, goes_on, is_back, rests}
use Rattle.mixed_machine.specs.StepClauses.{Tells}
use Rattle.mixed_machine.specs.Exec.How.{Limited, Exited, Faulted}
use Rattle.mixed_machine.specs.Exec.End.{Ended}
use Rattle.mixed_machine.specs.Next.{Next, Effects}
use Rattle.mixed_machine.specs.Next.Next.{Goes, Exits, Faults}
use Rattle.mixed_machine.specs.State.{State}
use Rattle.mixed_machine.specs.Step.{step}

pub never-back : (s : State) → is_back 0 s ≡ false
never-back s = grind (arith, nat_tests)

rests-at : (b : Bool) (s t : State) (left : ℕ) → b ≡ false → rests b s ≡ Ended Limited t left → (s ≡ t) × (left ≡ 0)
rests-at true s t left is ends = cc
rests-at false s t left is ends = (cc, cc)

rests-exited : (b : Bool) (s t : State) (left code : ℕ) → rests b s ≡ Ended (Exited code) t left → ⊥
rests-exited true s t left code ends = cc
rests-exited false s t left code ends = cc

rests-faulted : (b : Bool) (s t : State) (left : ℕ) (fault : AFault) → rests b s ≡ Ended (Faulted fault) t left → ⊥
rests-faulted true s t left fault ends = cc
rests-faulted false s t left fault ends = cc

-- no step
pub none-led : (s t : State) → Leads 0 0 s t → s ≡ t
unfolding exec_to
none-led s t leads = (rests-at (is_back 0 s) s t 0 (never-back s) leads).0

-- a step that goes on
pub record Went (x : Next) (t : State) (left : ℕ) : Type 0 where
  pub effects : Effects
  pub goes : x ≡ Goes t effects
  pub none : left ≡ 0

went-by : (b : Bool) (x : Next) (s t : State) (left : ℕ) → b ≡ false → goes_on b x s 0 (exec_to 0 0) ≡ Ended Limited t left → Went x t left
unfolding exec_to
went-by true x s t left is ends = cc
went-by false (Goes u effects) s t left is ends =
    let own = rests-at (is_back 0 u) u t left (never-back u) ends in
    record { effects = effects; goes = ap (λ v. Goes v effects) own.0; none = own.1 }
went-by false (Exits code) s t left is ends = cc
went-by false (Faults fault) s t left is ends = cc

pub went-one : (s t : State) (left : ℕ) → exec_to 0 1 s ≡ Ended Limited t left → Went (step s) t left
unfolding exec_to
went-one s t left ends = went-by (is_back 0 s) (step s) s t left (never-back s) ends

pub record Left (x y : Next) (s t : State) (left n : ℕ) : Type 0 where
  pub ends : x ≡ y
  pub same : t ≡ s
  pub left_is : left ≡ n

exited-by : (b : Bool) (x : Next) (s t : State) (left code : ℕ) → b ≡ false → goes_on b x s 0 (exec_to 0 0) ≡ Ended (Exited code) t left → Left x (Exits code) s t left 0
unfolding exec_to
exited-by true x s t left code is ends = cc
exited-by false (Goes u effects) s t left code is ends = absurd (rests-exited (is_back 0 u) u t left code ends)
exited-by false (Exits c) s t left code is ends = record { ends = cc; same = cc; left_is = cc }
exited-by false (Faults fault) s t left code is ends = cc

pub exited-one : (s t : State) (left code : ℕ) → exec_to 0 1 s ≡ Ended (Exited code) t left → Left (step s) (Exits code) s t left 0
unfolding exec_to
exited-one s t left code ends = exited-by (is_back 0 s) (step s) s t left code (never-back s) ends

faulted-by : (b : Bool) (x : Next) (s t : State) (left : ℕ) (fault : AFault) → b ≡ false → goes_on b x s 0 (exec_to 0 0) ≡ Ended (Faulted fault) t left → Left x (Faults fault) s t left 1
unfolding exec_to
faulted-by true x s t left fault is ends = cc
faulted-by false (Goes u effects) s t left fault is ends = absurd (rests-faulted (is_back 0 u) u t left fault ends)
faulted-by false (Exits code) s t left fault is ends = cc
faulted-by false (Faults f) s t left fault is ends = record { ends = cc; same = cc; left_is = cc }

pub faulted-one : (s t : State) (left : ℕ) (fault : AFault) → exec_to 0 1 s ≡ Ended (Faulted fault) t left → Left (step s) (Faults fault) s t left 1
unfolding exec_to
faulted-one s t left fault ends = faulted-by (is_back 0 s) (step s) s t left fault (never-back s) ends

-- a step that goes on leads there
pub stays-led : (t : State) → Leads 0 0 t t
unfolding exec_to
stays-led t = ap (λ b. rests b t) (never-back t)

pub goes-led : (s t : State) (effects : Effects) → step s ≡ Goes t effects → Leads 0 1 s t
unfolding exec_to
goes-led s t effects goes =
    ap (λ x. goes_on (is_back 0 s) x s 0 (exec_to 0 0)) goes ∙ (ap (λ b. goes_on b (Goes t effects) s 0 (exec_to 0 0)) (never-back s) ∙ stays-led t)

-- it stops no run of several steps
exits-no-more : (b : Bool) (s t : State) (code n : ℕ) → b ≡ false → goes_on b (Exits code) s n (exec_to 0 n) ≡ Ended Limited t 0 → ⊥
exits-no-more true s t code n is ends = cc
exits-no-more false s t code n is ends = cc

pub exits-stops : (s t : State) (code n : ℕ) → step s ≡ Exits code → Leads 0 (suc n) s t → ⊥
unfolding exec_to
exits-stops s t code n exits leads =
    exits-no-more (is_back 0 s) s t code n (never-back s) (sym (ap (λ x. goes_on (is_back 0 s) x s n (exec_to 0 n)) exits) ∙ leads)

faults-no-more : (b : Bool) (s t : State) (fault : AFault) (n : ℕ) → b ≡ false → goes_on b (Faults fault) s n (exec_to 0 n) ≡ Ended Limited t 0 → ⊥
faults-no-more true s t fault n is ends = cc
faults-no-more false s t fault n is ends = cc

pub faults-stops : (s t : State) (fault : AFault) (n : ℕ) → step s ≡ Faults fault → Leads 0 (suc n) s t → ⊥
unfolding exec_to
faults-stops s t fault n faults leads =
    faults-no-more (is_back 0 s) s t fault n (never-back s) (sym (ap (λ x. goes_on (is_back 0 s) x s n (exec_to 0 n)) faults) ∙ leads)

-- a step that is done says where it goes
pub tells-goes : (x : Next) (t : State) → GoesTo x t → Tells x → (effects : Effects) × (x ≡ Goes t effects)
tells-goes (Goes u effects) t goes tells = (effects, ap (λ v. Goes v effects) (sym goes))
tells-goes (Exits code) t goes tells = absurd goes
tells-goes (Faults fault) t goes tells = absurd goes
