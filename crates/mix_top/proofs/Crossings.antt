-- Crossings, counted by the numbers of live frames before and after each step.
use Rattle.std.proofs.Common.{◌≡◌, ℕ, ◌+◌, ◌-◌, ◌<◌, ◌≤◌, nat_lt, length, sym, ap, ◌∙◌, subst, refl, arith}
use Rattle.std.specs.Int.{from_bool}
use Rattle.mix_bits.specs.declared.fault.Fault.{Fault as AFault}
use Rattle.mix_bits.specs.declared.isa.Isa.{Isa}
use Rattle.switch_frame.specs.declared.active.Active.{Active}
use Rattle.switch_frame.specs.Records.{isa_of}
use Rattle.mixed_machine.specs.declared.body.Body.{Body}
use Rattle.mixed_machine.specs.State.{State}
use Rattle.mixed_machine.specs.laws.Crossings.{Counting}
use Rattle.mixed_machine.specs.StepClauses.{gives_up_frame, makes_frame}
use Rattle.mixed_machine.specs.Machine.{callers_of, flat}
use Rattle.mixed_machine.proofs.Crossings.{count-exits, count-faults, count-goes_on, count-limit}
use Rattle.mix_top.specs.Samples.{CountedRun, nothing}
use Rattle.mix_top.specs.inner.Samples.{Steps}
use Rattle.call_trace.specs.declared.end.End.TheVariants.{Exit, Fault, Limit}
use Rattle.mixed_machine.specs.Endings.{end_of}
use Rattle.mixed_machine.specs.Exec.{How}
use Rattle.mixed_machine.specs.Exec.How.{Limited, Exited, Faulted}
use Rattle.mixed_machine.specs.Exec.End.{Ended}

-- how a run ended that is told so
is-limited : (set : Isa) (how : How) → Limit ≡ end_of set how → how ≡ Limited
is-limited set Limited is = refl
is-limited set (Exited code) is = cc
is-limited set (Faulted fault) is = cc

is-exited : (set : Isa) (how : How) (code : ℕ) → Exit code ≡ end_of set how → how ≡ Exited code
is-exited set Limited code is = cc
is-exited set (Exited c) code is = cc
is-exited set (Faulted fault) code is = cc

is-faulted : (of set : Isa) (how : How) (fault : AFault) → Fault of fault ≡ end_of set how → how ≡ Faulted fault
is-faulted of set Limited fault is = cc
is-faulted of set (Exited code) fault is = cc
is-faulted of set (Faulted f) fault is = cc

-- one more step was done
pub counting-on : (n left : ℕ) (s : State) (b c : Body) (x y : Active) (calls returns before after more fewer : ℕ) → 0 < left
    → before ≡ length (callers_of b) → after ≡ length (callers_of c) → more ≡ from_bool (nat_lt before after) → fewer ≡ from_bool (nat_lt after before)
    → Counting n left s (flat b x nothing) calls returns → Steps (flat b x nothing) (flat c y nothing) Limit
    → Counting n (left - 1) s (flat c y nothing) (calls + more) (returns + fewer)
counting-on n left s b c x y calls returns before after more fewer some before_is after_is more_is fewer_is so_far step =
    let made : more ≡ from_bool (makes_frame (flat b x nothing) (flat c y nothing)) =
    more_is ∙ (ap (λ k. from_bool (nat_lt k after)) before_is ∙ ap (λ k. from_bool (nat_lt (length (callers_of b)) k)) after_is) in
    let given_up : fewer ≡ from_bool (gives_up_frame (flat b x nothing) (flat c y nothing)) =
    fewer_is ∙ (ap (λ k. from_bool (nat_lt after k)) before_is ∙ ap (λ k. from_bool (nat_lt k (length (callers_of b)))) after_is) in
    subst (λ k. Counting n (left - 1) s (flat c y nothing) (calls + k) (returns + fewer)) (sym made)
    (subst (λ k. Counting n (left - 1) s (flat c y nothing) (calls + from_bool (makes_frame (flat b x nothing) (flat c y nothing))) (returns + k)) (sym given_up)
    (count-goes_on n left step.left calls returns s (flat b x nothing) (flat c y nothing) some so_far
    (step.ends ∙ ap (λ h. Ended h (flat c y nothing) step.left) (is-limited (isa_of y) step.how step.end_is))))

-- the next step was an exit, or can't be done, or no step is left
pub ran-exits : (n left calls returns code done : ℕ) (s t u : State) → 0 < left → done ≡ n - left + 1 → Counting n left s t calls returns → Steps t u (Exit code)
    → CountedRun n s (record { calls = calls; returns = returns; steps = done; end = Exit code })
ran-exits n left calls returns code done s t u some done_is so_far step =
    let fewer : left ≤ n = so_far.fewer in
    record {
      left = left - 1;
      last = u;
      how = Exited code;
      counted = count-exits n left step.left calls returns code s t u some so_far (step.ends ∙ ap (λ h. Ended h u step.left) (is-exited (isa_of u.active) step.how code step.end_is));
      end_is = refl;
      done = omega (arith, some, done_is, fewer);
    }

pub ran-faults : (n left calls returns : ℕ) (set : Isa) (fault : AFault) (s t u : State) → 0 < left → Counting n left s t calls returns → Steps t u (Fault set fault)
    → CountedRun n s (record { calls = calls; returns = returns; steps = n - left; end = Fault set fault })
ran-faults n left calls returns set fault s t u some so_far step =
    let how : step.how ≡ Faulted fault = is-faulted set (isa_of u.active) step.how fault step.end_is in
    record {
      left = left;
      last = u;
      how = Faulted fault;
      counted = count-faults n left step.left calls returns fault s t u some so_far (step.ends ∙ ap (λ h. Ended h u step.left) how);
      end_is = step.end_is ∙ ap (end_of (isa_of u.active)) how;
      done = refl;
    }

pub ran-all : (n left calls returns : ℕ) (s t : State) → left ≡ 0 → Counting n left s t calls returns
    → CountedRun n s (record { calls = calls; returns = returns; steps = n; end = Limit })
ran-all n left calls returns s t none so_far =
    record {
      left = 0;
      last = t;
      how = Limited;
      end_is = refl;
      counted = count-limit n calls returns s t (subst (λ k. Counting n k s t calls returns) none so_far);
      done = omega arith;
    }
