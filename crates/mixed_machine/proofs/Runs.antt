-- Laws of runs, by induction on the steps.
use Rattle.std.proofs.Common.{◌≡◌, ◌≢◌, ℕ, zero, suc, ◌+◌, ◌≤◌, Bool, true, false, arith, sym, ap, ◌∙◌, refl, zero-add}
use Rattle.std.proofs.lemmas.Bool.Decides.{nat_tests}
use Rattle.mixed_machine.specs.State.{State}
use Rattle.mixed_machine.specs.Next.{Next}
use Rattle.mixed_machine.specs.Next.Next.{Goes, Exits, Faults}
use Rattle.mixed_machine.specs.Step.{step}
use Rattle.mixed_machine.specs.Exec.{How, End, exec_to, goes_on, rests, is_back, Leads}
use Rattle.mixed_machine.specs.Exec.How.{Limited, Faulted}
use Rattle.mixed_machine.specs.Exec.End.{Back, Ended}
use Rattle.mixed_machine.specs.laws.Laws.{NoStepsStay}

pub suc-more : (n m : ℕ) → suc n + m ≡ suc (n + m)
suc-more n m = omega arith

-- the state of an end
state_at : End → State
state_at (Back at left) = at
state_at (Ended how at left) = at

-- how an end ends, and with how many steps left
how_at : End → How
how_at (Back at left) = Limited
how_at (Ended how at left) = how

left_at : End → ℕ
left_at (Back at left) = left
left_at (Ended how at left) = left

-- an end with more steps left
with_more : ℕ → End → End
with_more m (Back at left) = Back at (left + m)
with_more m (Ended how at left) = Ended how at (left + m)

rests-here : (b : Bool) (s t : State) → rests b s ≡ Ended Limited t 0 → s ≡ t
unfolding state_at
rests-here true s t leads = cc
rests-here false s t leads = ap state_at leads

pub no-steps : NoStepsStay
unfolding exec_to
no-steps d s t leads = rests-here (is_back d s) s t leads

continues-step : (b : Bool) (x : Next) (s t : State) (d n m : ℕ) → ((u : State) → Leads d n u t → exec_to d (n + m) u ≡ exec_to d m t)
    → goes_on b x s n (exec_to d n) ≡ Ended Limited t 0 → goes_on b x s (n + m) (exec_to d (n + m)) ≡ exec_to d m t
continues-step true x s t d n m rest leads = cc
continues-step false (Goes u effects) s t d n m rest leads = rest u leads
continues-step false (Exits code) s t d n m rest leads = cc
continues-step false (Faults fault) s t d n m rest leads = cc

-- a run goes on from where a shorter one stopped
pub exec-continues : (d n m : ℕ) (s t : State) → Leads d n s t → exec_to d (n + m) s ≡ exec_to d m t
unfolding exec_to
exec-continues d zero m s t leads = ap (λ k. exec_to d k s) (zero-add m) ∙ ap (exec_to d m) (no-steps d s t leads)
exec-continues d (suc n) m s t leads =
    ap (λ k. exec_to d k s) (suc-more n m) ∙ continues-step (is_back d s) (step s) s t d n m (λ u. exec-continues d n m u t) leads

stays-step : (b : Bool) (x : Next) (s t : State) (d n m left : ℕ) (how : How)
    → ((u : State) → exec_to d n u ≡ Ended how t left → exec_to d (n + m) u ≡ Ended how t (left + m))
    → goes_on b x s n (exec_to d n) ≡ Ended how t left → goes_on b x s (n + m) (exec_to d (n + m)) ≡ Ended how t (left + m)
unfolding with_more
stays-step true x s t d n m left how rest ends = cc
stays-step false (Goes u effects) s t d n m left how rest ends = rest u ends
stays-step false (Exits code) s t d n m left how rest ends = ap (with_more m) ends
stays-step false (Faults fault) s t d n m left how rest ends = ap (λ k. Ended (Faulted fault) s k) (sym (suc-more n m)) ∙ ap (with_more m) ends

rests-limited : (b : Bool) (how : How) (s t : State) (left : ℕ) → how ≢ Limited → rests b s ≡ Ended how t left → ⊥
unfolding how_at
rests-limited true how s t left other ends = cc
rests-limited false how s t left other ends = other (sym (ap how_at ends))

-- an end stays
pub exec-stays : (d n m left : ℕ) (how : How) (s t : State) → how ≢ Limited → exec_to d n s ≡ Ended how t left → exec_to d (n + m) s ≡ Ended how t (left + m)
unfolding exec_to
exec-stays d zero m left how s t other ends = absurd (rests-limited (is_back d s) how s t left other ends)
exec-stays d (suc n) m left how s t other ends =
    ap (λ k. exec_to d k s) (suc-more n m) ∙ stays-step (is_back d s) (step s) s t d n m left how (λ u. exec-stays d n m left how u t other) ends

-- a run that may not do a step, where too few callers are suspended for it
pub back-now : (b : Bool) (s : State) (d m : ℕ) → b ≡ is_back d s → b ≡ true → exec_to d m s ≡ Back s m
unfolding exec_to
back-now b s d zero same back = ap (λ c. rests c s) (sym same ∙ back)
back-now b s d (suc m) same back = ap (λ c. goes_on c (step s) s m (exec_to d m)) (sym same ∙ back)

rests-back : (b : Bool) (s t : State) (d m left : ℕ) → b ≡ is_back d s → rests b s ≡ Back t left → exec_to d m s ≡ Back t (left + m)
unfolding state_at left_at
rests-back true s t d m left same ends =
    let at : s ≡ t = ap state_at ends in
    let none : 0 ≡ left = ap left_at ends in
    back-now true s d m same refl ∙ ap (λ u. Back u m) at ∙ ap (λ k. Back t k) (omega (arith, none))
rests-back false s t d m left same ends = cc

backs-step : (b : Bool) (x : Next) (s t : State) (d n m left : ℕ)
    → ((u : State) → exec_to d n u ≡ Back t left → exec_to d (n + m) u ≡ Back t (left + m))
    → goes_on b x s n (exec_to d n) ≡ Back t left → goes_on b x s (n + m) (exec_to d (n + m)) ≡ Back t (left + m)
unfolding with_more
backs-step true x s t d n m left rest ends = ap (λ k. Back s k) (sym (suc-more n m)) ∙ ap (with_more m) ends
backs-step false (Goes u effects) s t d n m left rest ends = rest u ends
backs-step false (Exits code) s t d n m left rest ends = cc
backs-step false (Faults fault) s t d n m left rest ends = cc

pub backs-stay : (d n m left : ℕ) (s t : State) → exec_to d n s ≡ Back t left → exec_to d (n + m) s ≡ Back t (left + m)
unfolding exec_to
backs-stay d zero m left s t ends = ap (λ k. exec_to d k s) (zero-add m) ∙ rests-back (is_back d s) s t d m left refl ends
backs-stay d (suc n) m left s t ends =
    ap (λ k. exec_to d k s) (suc-more n m) ∙ backs-step (is_back d s) (step s) s t d n m left (λ u. backs-stay d n m left u t) ends

rests-last : (b : Bool) (s t : State) (left : ℕ) → rests b s ≡ Ended Limited t left → left ≡ 0
unfolding left_at
rests-last true s t left ends = cc
rests-last false s t left ends = sym (ap left_at ends)

last-step : (b : Bool) (x : Next) (s t : State) (d n left : ℕ) → ((u : State) → exec_to d n u ≡ Ended Limited t left → left ≡ 0)
    → goes_on b x s n (exec_to d n) ≡ Ended Limited t left → left ≡ 0
last-step true x s t d n left rest ends = cc
last-step false (Goes u effects) s t d n left rest ends = rest u ends
last-step false (Exits code) s t d n left rest ends = cc
last-step false (Faults fault) s t d n left rest ends = cc

-- the step limit is reached with no step left
pub limits-last : (d n left : ℕ) (s t : State) → exec_to d n s ≡ Ended Limited t left → left ≡ 0
unfolding exec_to
limits-last d zero left s t ends = rests-last (is_back d s) s t left ends
limits-last d (suc n) left s t ends = last-step (is_back d s) (step s) s t d n left (λ u. limits-last d n left u t) ends

-- where more callers are suspended than the greater number asks for, so are more than the smaller one asks for
not-back : (e d : ℕ) (s : State) → e ≤ d → is_back d s ≡ false → is_back e s ≡ false
not-back e d s fewer stays = grind (arith, nat_tests, fewer, stays)

reaches-rest : (b : Bool) (e d : ℕ) (how : How) (s t : State) (left : ℕ) → e ≤ d → b ≡ is_back d s → rests b s ≡ Ended how t left → exec_to e 0 s ≡ Ended how t left
unfolding exec_to
reaches-rest true e d how s t left fewer same ends = cc
reaches-rest false e d how s t left fewer same ends = ap (λ c. rests c s) (not-back e d s fewer (sym same)) ∙ ends

reaches-step : (b : Bool) (x : Next) (e d n left : ℕ) (how : How) (s t : State) → e ≤ d → b ≡ is_back d s
    → ((u : State) → exec_to d n u ≡ Ended how t left → exec_to e n u ≡ Ended how t left)
    → goes_on b x s n (exec_to d n) ≡ Ended how t left → goes_on (is_back e s) x s n (exec_to e n) ≡ Ended how t left
reaches-step true x e d n left how s t fewer same rest ends = cc
reaches-step false (Goes u effects) e d n left how s t fewer same rest ends =
    ap (λ c. goes_on c (Goes u effects) s n (exec_to e n)) (not-back e d s fewer (sym same)) ∙ rest u ends
reaches-step false (Exits code) e d n left how s t fewer same rest ends =
    ap (λ c. goes_on c (Exits code) s n (exec_to e n)) (not-back e d s fewer (sym same)) ∙ ends
reaches-step false (Faults fault) e d n left how s t fewer same rest ends =
    ap (λ c. goes_on c (Faults fault) s n (exec_to e n)) (not-back e d s fewer (sym same)) ∙ ends

-- an end is one of the run down to fewer callers too
pub ends-reach : (e d n left : ℕ) (how : How) (s t : State) → e ≤ d → exec_to d n s ≡ Ended how t left → exec_to e n s ≡ Ended how t left
unfolding exec_to
ends-reach e d zero left how s t fewer ends = reaches-rest (is_back d s) e d how s t left fewer refl ends
ends-reach e d (suc n) left how s t fewer ends =
    reaches-step (is_back d s) (step s) e d n left how s t fewer refl (λ u. ends-reach e d n left how u t fewer) ends

rests-continue : (b : Bool) (e : ℕ) (s t : State) (left : ℕ) → rests b s ≡ Back t left → exec_to e 0 s ≡ exec_to e left t
unfolding state_at left_at
rests-continue true e s t left ends = ap (λ k. exec_to e k s) (ap left_at ends) ∙ ap (exec_to e left) (ap state_at ends)
rests-continue false e s t left ends = cc

backs-continue-step : (b : Bool) (x : Next) (e d n left : ℕ) (s t : State) → e ≤ d → b ≡ is_back d s → x ≡ step s
    → ((u : State) → exec_to d n u ≡ Back t left → exec_to e n u ≡ exec_to e left t)
    → goes_on b x s n (exec_to d n) ≡ Back t left → exec_to e (suc n) s ≡ exec_to e left t
unfolding state_at left_at exec_to
backs-continue-step true x e d n left s t fewer same is rest ends =
    ap (λ k. exec_to e k s) (ap left_at ends) ∙ ap (exec_to e left) (ap state_at ends)
backs-continue-step false (Goes u effects) e d n left s t fewer same is rest ends =
    ap (λ c. goes_on c (step s) s n (exec_to e n)) (not-back e d s fewer (sym same))
    ∙ (ap (λ x. goes_on false x s n (exec_to e n)) (sym is) ∙ rest u ends)
backs-continue-step false (Exits code) e d n left s t fewer same is rest ends = cc
backs-continue-step false (Faults fault) e d n left s t fewer same is rest ends = cc

-- a run down to fewer callers goes on where one down to more came back
pub backs-continue : (e d n left : ℕ) (s t : State) → e ≤ d → exec_to d n s ≡ Back t left → exec_to e n s ≡ exec_to e left t
unfolding exec_to
backs-continue e d zero left s t fewer ends = rests-continue (is_back d s) e s t left ends
backs-continue e d (suc n) left s t fewer ends =
    backs-continue-step (is_back d s) (step s) e d n left s t fewer refl refl (λ u. backs-continue e d n left u t fewer) ends

never-rests : (b : Bool) (s t : State) (left : ℕ) → b ≡ is_back 0 s → rests b s ≢ Back t left
never-rests true s t left same ends = let never : is_back 0 s ≡ true = sym same in grind (arith, nat_tests, never)
never-rests false s t left same ends = cc

never-step : (b : Bool) (x : Next) (s t : State) (n left : ℕ) → b ≡ is_back 0 s → ((u : State) → exec_to 0 n u ≢ Back t left)
    → goes_on b x s n (exec_to 0 n) ≢ Back t left
never-step true x s t n left same rest ends = let never : is_back 0 s ≡ true = sym same in grind (arith, nat_tests, never)
never-step false (Goes u effects) s t n left same rest ends = rest u ends
never-step false (Exits code) s t n left same rest ends = cc
never-step false (Faults fault) s t n left same rest ends = cc

-- fewer than no callers are never suspended
pub never-back : (n left : ℕ) (s t : State) → exec_to 0 n s ≢ Back t left
unfolding exec_to
never-back zero left s t ends = never-rests (is_back 0 s) s t left refl ends
never-back (suc n) left s t ends = never-step (is_back 0 s) (step s) s t n left refl (λ u. never-back n left u t) ends
