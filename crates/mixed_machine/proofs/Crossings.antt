-- The crossings of a run, counted a step at a time.
use Rattle.std.proofs.Common.{◌≡◌, ℕ, zero, suc, ◌+◌, ◌-◌, ◌≤◌, Bool, true, false, arith, sym, ap, ◌∙◌, subst, refl, add-zero, zero-add, add_assoc}
use Rattle.std.proofs.lemmas.Bool.Decides.{nat_tests}
use Rattle.std.specs.Int.{from_bool}
use Rattle.mix_bits.specs.declared.fault.Fault.{Fault}
use Rattle.mixed_machine.specs.State.{State}
use Rattle.mixed_machine.specs.Next.{Next}
use Rattle.mixed_machine.specs.Next.Next.{Goes, Exits, Faults}
use Rattle.mixed_machine.specs.Step.{step}
use Rattle.mixed_machine.specs.Exec.{exec, exec_to, goes_on, rests, is_back, Leads, GoesTo}
use Rattle.mixed_machine.specs.Exec.How.{Limited, Exited, Faulted}
use Rattle.mixed_machine.specs.Exec.End.{Ended}
use Rattle.mixed_machine.specs.Crossings.{Crossed, count_of, count_with}
use Rattle.mixed_machine.specs.StepClauses.{gives_up_frame, makes_frame}
use Rattle.mixed_machine.specs.laws.CrossingLaws.{CountBegins, CountExits, CountFaults, CountGoesOn, CountLimit}
use Rattle.mixed_machine.proofs.Runs.{suc-more, no-steps}
use Rattle.mixed_machine.proofs.Logs.{exec-exits, exec-faults, leads-more, leads-none}

-- the counts of a run go on where its first steps led

count-none : (test : State → State → Bool) (s : State) → count_of test 0 s ≡ 0
unfolding count_of
count-none test s = refl

count-step : (test : State → State → Bool) (b : Bool) (x : Next) (s t : State) (d i j : ℕ)
    → ((u : State) → Leads d i u t → count_of test (i + j) u ≡ count_of test i u + count_of test j t)
    → goes_on b x s i (exec_to d i) ≡ Ended Limited t 0 → count_with x (test s) (count_of test (i + j)) ≡ count_with x (test s) (count_of test i) + count_of test j t
count-step test true x s t d i j rest leads = cc
count-step test false (Goes u effects) s t d i j rest leads =
    ap (λ n. from_bool (test s u) + n) (rest u leads) ∙ sym (add_assoc (from_bool (test s u)) (count_of test i u) (count_of test j t))
count-step test false (Exits code) s t d i j rest leads = cc
count-step test false (Faults fault) s t d i j rest leads = cc

count-continues : (test : State → State → Bool) (d i j : ℕ) (s t : State) → Leads d i s t → count_of test (i + j) s ≡ count_of test i s + count_of test j t
unfolding exec_to count_of
count-continues test d zero j s t leads =
    ap (λ k. count_of test k s) (zero-add j) ∙ (ap (count_of test j) (no-steps d s t leads) ∙ sym (zero-add (count_of test j t)))
count-continues test d (suc i) j s t leads =
    ap (λ k. count_of test k s) (suc-more i j) ∙ count-step test (is_back d s) (step s) s t d i j (λ u. count-continues test d i j u t) leads

count-once : (test : State → State → Bool) (x : Next) (t u : State) → GoesTo x u → count_with x (test t) (count_of test 0) ≡ from_bool (test t u)
unfolding count_of
count-once test (Goes v effects) t u goes = add-zero (from_bool (test t v)) ∙ ap (λ w. from_bool (test t w)) (sym goes)
count-once test (Exits code) t u goes = absurd goes
count-once test (Faults fault) t u goes = absurd goes

count-more : (test : State → State → Bool) (j : ℕ) (s t u : State) → Leads 0 j s t → GoesTo (step t) u → count_of test (j + 1) s ≡ count_of test j s + from_bool (test t u)
unfolding count_of
count-more test j s t u leads goes =
    count-continues test 0 j 1 s t leads ∙ ap (λ n. count_of test j s + n) (count-once test (step t) t u goes)

count-nothing : (test : State → State → Bool) (x : Next) (t : State) (code : ℕ) → x ≡ Exits code → count_with x (test t) (count_of test 0) ≡ 0
count-nothing test (Goes u effects) t code exits = cc
count-nothing test (Exits c) t code exits = refl
count-nothing test (Faults fault) t code exits = refl

count-last : (test : State → State → Bool) (j code : ℕ) (s t : State) → Leads 0 j s t → step t ≡ Exits code → count_of test (j + 1) s ≡ count_of test j s
unfolding count_of
count-last test j code s t leads exits =
    count-continues test 0 j 1 s t leads
    ∙ (ap (λ n. count_of test j s + n) (count-nothing test (step t) t code exits) ∙ add-zero (count_of test j s))

-- what a run of one step tells of the step

limited-is : (b : Bool) (v u : State) (l : ℕ) → rests b v ≡ Ended Limited u l → u ≡ v
limited-is true v u l ends = cc
limited-is false v u l ends = cc

rests-exited : (b : Bool) (v u : State) (code l : ℕ) → rests b v ≡ Ended (Exited code) u l → ⊥
rests-exited true v u code l ends = cc
rests-exited false v u code l ends = cc

rests-faulted : (b : Bool) (v u : State) (fault : Fault) (l : ℕ) → rests b v ≡ Ended (Faulted fault) u l → ⊥
rests-faulted true v u fault l ends = cc
rests-faulted false v u fault l ends = cc

one-goes : (b : Bool) (x : Next) (t u : State) (l : ℕ) → goes_on b x t 0 (exec_to 0 0) ≡ Ended Limited u l → GoesTo x u
unfolding exec_to
one-goes true x t u l ends = cc
one-goes false (Goes v effects) t u l ends = limited-is (is_back 0 v) v u l ends
one-goes false (Exits code) t u l ends = cc
one-goes false (Faults fault) t u l ends = cc

one-exits : (b : Bool) (x : Next) (t u : State) (code l : ℕ) → goes_on b x t 0 (exec_to 0 0) ≡ Ended (Exited code) u l → (x ≡ Exits code) × (u ≡ t)
unfolding exec_to
one-exits true x t u code l ends = cc
one-exits false (Goes v effects) t u code l ends = absurd (rests-exited (is_back 0 v) v u code l ends)
one-exits false (Exits c) t u code l ends = (cc, cc)
one-exits false (Faults fault) t u code l ends = cc

one-faults : (b : Bool) (x : Next) (t u : State) (fault : Fault) (l : ℕ) → goes_on b x t 0 (exec_to 0 0) ≡ Ended (Faulted fault) u l → (x ≡ Faults fault) × (u ≡ t)
unfolding exec_to
one-faults true x t u fault l ends = cc
one-faults false (Goes v effects) t u fault l ends = absurd (rests-faulted (is_back 0 v) v u fault l ends)
one-faults false (Exits c) t u fault l ends = cc
one-faults false (Faults f) t u fault l ends = (cc, cc)

never-deep : (u : State) → is_back 0 u ≡ false
never-deep u = grind (arith, nat_tests)

small : (b : Bool) → from_bool b ≤ 1
small true = omega arith
small false = omega arith

-- the laws

pub count-begins : CountBegins
count-begins n s =
    let none : 0 ≡ n - n = omega arith in
    record {
      fewer = omega arith;
      leads = subst (λ j. Leads 0 j s s) none (leads-none 0 s (never-deep s));
      crossed = subst (λ j. Crossed j s 0 0) none (record { calls = sym (count-none makes_frame s); returns = sym (count-none gives_up_frame s) });
      few_calls = omega arith;
      few_returns = omega arith;
    }

goes : (t u : State) (l : ℕ) → exec 1 t ≡ Ended Limited u l → GoesTo (step t) u
unfolding exec_to
goes t u l ends = one-goes (is_back 0 t) (step t) t u l ends

exits : (t u : State) (code l : ℕ) → exec 1 t ≡ Ended (Exited code) u l → (step t ≡ Exits code) × (u ≡ t)
unfolding exec_to
exits t u code l ends = one-exits (is_back 0 t) (step t) t u code l ends

faults : (t u : State) (fault : Fault) (l : ℕ) → exec 1 t ≡ Ended (Faulted fault) u l → (step t ≡ Faults fault) × (u ≡ t)
unfolding exec_to
faults t u fault l ends = one-faults (is_back 0 t) (step t) t u fault l ends

pub count-goes_on : CountGoesOn
count-goes_on n left l calls returns s t u some so_far ends =
    let fewer : left ≤ n = so_far.fewer in
    let one : (n - left) + 1 ≡ n - (left - 1) = omega (arith, some, fewer) in
    let next : GoesTo (step t) u = goes t u l ends in
    let few_calls : calls ≤ n - left = so_far.few_calls in
    let few_returns : returns ≤ n - left = so_far.few_returns in
    let one_call : from_bool (makes_frame t u) ≤ 1 = small (makes_frame t u) in
    let one_return : from_bool (gives_up_frame t u) ≤ 1 = small (gives_up_frame t u) in
    record {
      fewer = omega (arith, fewer);
      leads = subst (λ j. Leads 0 j s u) one (leads-more 0 (n - left) s t u so_far.leads next (never-deep u));
      crossed = subst (λ j. Crossed j s (calls + from_bool (makes_frame t u)) (returns + from_bool (gives_up_frame t u))) one (record {
        calls = ap (λ k. k + from_bool (makes_frame t u)) so_far.crossed.calls ∙ sym (count-more makes_frame (n - left) s t u so_far.leads next);
        returns = ap (λ k. k + from_bool (gives_up_frame t u)) so_far.crossed.returns ∙ sym (count-more gives_up_frame (n - left) s t u so_far.leads next);
      });
      few_calls = omega (arith, some, fewer, few_calls, one_call);
      few_returns = omega (arith, some, fewer, few_returns, one_return);
    }

pub count-exits : CountExits
count-exits n left l calls returns code s t u some so_far ends =
    let fewer : left ≤ n = so_far.fewer in
    let all : (n - left) + suc (left - 1) ≡ n = omega (arith, some, fewer) in
    let one : (n - left) + 1 ≡ n - (left - 1) = omega (arith, some, fewer) in
    let last = exits t u code l ends in
    record {
      fewer = omega (arith, fewer);
      ends = subst (λ v. exec n s ≡ Ended (Exited code) v (left - 1)) (sym last.1)
          (subst (λ j. exec j s ≡ Ended (Exited code) t (left - 1)) all (exec-exits 0 (n - left) (left - 1) s t code so_far.leads last.0));
      crossed = subst (λ j. Crossed j s calls returns) one (record {
        calls = so_far.crossed.calls ∙ sym (count-last makes_frame (n - left) code s t so_far.leads last.0);
        returns = so_far.crossed.returns ∙ sym (count-last gives_up_frame (n - left) code s t so_far.leads last.0);
      });
    }

pub count-faults : CountFaults
count-faults n left l calls returns fault s t u some so_far ends =
    let fewer : left ≤ n = so_far.fewer in
    let all : (n - left) + suc (left - 1) ≡ n = omega (arith, some, fewer) in
    let back : suc (left - 1) ≡ left = omega (arith, some) in
    let last = faults t u fault l ends in
    record {
      fewer = fewer;
      ends = subst (λ v. exec n s ≡ Ended (Faulted fault) v left) (sym last.1) (subst (λ k. exec n s ≡ Ended (Faulted fault) t k) back
          (subst (λ j. exec j s ≡ Ended (Faulted fault) t (suc (left - 1))) all (exec-faults 0 (n - left) (left - 1) s t fault so_far.leads last.0)));
      crossed = so_far.crossed;
    }

pub count-limit : CountLimit
count-limit n calls returns s t so_far =
    let all : n - 0 ≡ n = omega arith in
    record {
      fewer = so_far.fewer;
      ends = subst (λ j. exec j s ≡ Ended Limited t 0) all so_far.leads;
      crossed = so_far.crossed;
    }
