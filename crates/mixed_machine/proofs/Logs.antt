-- A run step by step, and what its steps put.
use Rattle.std.proofs.Common.{◌≡◌, ℕ, zero, suc, ◌+◌, Bool, true, false, List, [], ◌++◌, sym, ap, ◌∙◌, refl, add-zero, zero-add, append-nil, append_assoc}
use Rattle.mix_bits.specs.declared.fault.Fault.{Fault}
use Rattle.mixed_machine.specs.State.{State}
use Rattle.mixed_machine.specs.Next.{Next}
use Rattle.mixed_machine.specs.Next.Next.{Goes, Exits, Faults}
use Rattle.mixed_machine.specs.Step.{step}
use Rattle.mixed_machine.specs.Exec.{exec_to, goes_on, rests, is_back, Leads, GoesTo, log, log_then}
use Rattle.mixed_machine.specs.Exec.How.{Limited, Exited, Faulted}
use Rattle.mixed_machine.specs.Exec.End.{Back, Ended}
use Rattle.mixed_machine.specs.laws.Laws.{LogsContinue}
use Rattle.mixed_machine.proofs.Runs.{exec-continues, suc-more, no-steps, back-now}

-- no step was done yet
pub leads-none : (d : ℕ) (s : State) → is_back d s ≡ false → Leads d 0 s s
unfolding exec_to
leads-none d s stays = ap (λ b. rests b s) stays

rests-stays : (b : Bool) (s t : State) → rests b s ≡ Ended Limited t 0 → b ≡ false
rests-stays true s t leads = cc
rests-stays false s t leads = refl

-- a run that is on its way has not come back
pub leads-stays : (d j : ℕ) (s t : State) → Leads d j s t → is_back d t ≡ false
unfolding exec_to
leads-stays d j s t leads =
    rests-stays (is_back d t) t t (sym (exec-continues d j 0 s t leads) ∙ ap (λ k. exec_to d k s) (add-zero j) ∙ leads)

one-more : (b : Bool) (x : Next) (d m : ℕ) (t u : State) → b ≡ false → GoesTo x u → goes_on b x t m (exec_to d m) ≡ exec_to d m u
one-more true x d m t u stays goes = cc
one-more false (Goes v effects) d m t u stays goes = ap (exec_to d m) (sym goes)
one-more false (Exits code) d m t u stays goes = absurd goes
one-more false (Faults fault) d m t u stays goes = absurd goes

-- with one more step allowed than m, and one that goes on
pub exec-goes : (d m : ℕ) (t u : State) → is_back d t ≡ false → GoesTo (step t) u → exec_to d (suc m) t ≡ exec_to d m u
unfolding exec_to
exec-goes d m t u stays goes = one-more (is_back d t) (step t) d m t u stays goes

-- one more step was done
pub leads-more : (d j : ℕ) (s t u : State) → Leads d j s t → GoesTo (step t) u → is_back d u ≡ false → Leads d (j + 1) s u
leads-more d j s t u leads goes stays =
    exec-continues d j 1 s t leads ∙ (exec-goes d 0 t u (leads-stays d j s t leads) goes ∙ leads-none d u stays)

-- and more
pub leads-append : (d i j : ℕ) (s t u : State) → Leads d i s t → Leads d j t u → Leads d (i + j) s u
leads-append d i j s t u first then = exec-continues d i j s t first ∙ then

-- the step goes on, and comes back
pub exec-back : (d j m : ℕ) (s t u : State) → Leads d j s t → GoesTo (step t) u → is_back d u ≡ true → exec_to d (j + suc m) s ≡ Back u m
exec-back d j m s t u leads goes back =
    exec-continues d j (suc m) s t leads
    ∙ (exec-goes d m t u (leads-stays d j s t leads) goes ∙ back-now (is_back d u) u d m refl back)

-- the next step ends the run
pub exec-exits : (d j m : ℕ) (s t : State) (code : ℕ) → Leads d j s t → step t ≡ Exits code → exec_to d (j + suc m) s ≡ Ended (Exited code) t m
unfolding exec_to
exec-exits d j m s t code leads exits =
    exec-continues d j (suc m) s t leads
    ∙ (ap (λ b. goes_on b (step t) t m (exec_to d m)) (leads-stays d j s t leads) ∙ ap (λ x. goes_on false x t m (exec_to d m)) exits)

pub exec-faults : (d j m : ℕ) (s t : State) (fault : Fault) → Leads d j s t → step t ≡ Faults fault → exec_to d (j + suc m) s ≡ Ended (Faulted fault) t (suc m)
unfolding exec_to
exec-faults d j m s t fault leads faults =
    exec-continues d j (suc m) s t leads
    ∙ (ap (λ b. goes_on b (step t) t m (exec_to d m)) (leads-stays d j s t leads) ∙ ap (λ x. goes_on false x t m (exec_to d m)) faults)

log-step : (pick : Next → List ℕ) (b : Bool) (x : Next) (s t : State) (d i j : ℕ)
    → ((u : State) → Leads d i u t → log pick (i + j) u ≡ log pick i u ++ log pick j t)
    → goes_on b x s i (exec_to d i) ≡ Ended Limited t 0 → log_then pick x (log pick (i + j)) ≡ log_then pick x (log pick i) ++ log pick j t
log-step pick true x s t d i j rest leads = cc
log-step pick false (Goes u effects) s t d i j rest leads =
    ap (λ xs. pick (Goes u effects) ++ xs) (rest u leads) ∙ sym (append_assoc (pick (Goes u effects)) (log pick i u) (log pick j t))
log-step pick false (Exits code) s t d i j rest leads = cc
log-step pick false (Faults fault) s t d i j rest leads = cc

-- what a run puts is what its first steps put, and then the others
pub log-continues : LogsContinue
unfolding exec_to log
log-continues pick d zero j s t leads = ap (λ k. log pick k s) (zero-add j) ∙ ap (log pick j) (no-steps d s t leads)
log-continues pick d (suc i) j s t leads =
    ap (λ k. log pick k s) (suc-more i j) ∙ log-step pick (is_back d s) (step s) s t d i j (λ u. log-continues pick d i j u t) leads

once : (pick : Next → List ℕ) (x : Next) (u : State) → GoesTo x u → log_then pick x (log pick 0) ≡ pick x
unfolding log
once pick (Goes t effects) u goes = append-nil (pick (Goes t effects))
once pick (Exits code) u goes = absurd goes
once pick (Faults fault) u goes = absurd goes

-- one more step that goes on, and what it puts
pub log-more : (pick : Next → List ℕ) (d j : ℕ) (s t u : State) → Leads d j s t → GoesTo (step t) u → log pick (j + 1) s ≡ log pick j s ++ pick (step t)
unfolding log
log-more pick d j s t u leads goes = log-continues pick d j 1 s t leads ∙ ap (λ xs. log pick j s ++ xs) (once pick (step t) u goes)

ends-silent : (pick : Next → List ℕ) (x : Next) (code : ℕ) → pick (Exits code) ≡ [] → x ≡ Exits code → log_then pick x (log pick 0) ≡ []
ends-silent pick (Goes t effects) code silent exits = cc
ends-silent pick (Exits c) code silent exits = ap pick exits ∙ silent
ends-silent pick (Faults fault) code silent exits = cc

-- an exit puts nothing
pub log-exits : (pick : Next → List ℕ) (d j : ℕ) (s t : State) (code : ℕ) → pick (Exits code) ≡ [] → Leads d j s t → step t ≡ Exits code → log pick (j + 1) s ≡ log pick j s
unfolding log
log-exits pick d j s t code silent leads exits =
    log-continues pick d j 1 s t leads ∙ (ap (λ xs. log pick j s ++ xs) (ends-silent pick (step t) code silent exits) ∙ append-nil (log pick j s))

-- no step puts nothing
pub log-none : (pick : Next → List ℕ) (s : State) → log pick 0 s ≡ []
unfolding log
log-none pick s = refl
