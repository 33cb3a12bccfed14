-- A run, one event at a time, with what the two sinks took.
use Rattle.std.proofs.Common.{◌≡◌, ℕ, zero, suc, ◌+◌, ◌-◌, ◌<◌, ◌≤◌, Bool, true, false, List, [], arith, sym, ap, ◌∙◌, subst, refl, append-nil}
use Rattle.mix_bits.specs.declared.fault.Fault.{Fault}
use Rattle.mix_io.specs.Streams.{Output, Grows, Breaks}
use Rattle.mix_io.proofs.Streams.{grows-none, grows-more, breaks-after}
use Rattle.mixed_machine.specs.declared.stop.Stop.{Stop}
use Rattle.mixed_machine.specs.declared.stop.Stop.TheVariants.{Exit, Fault as FaultStop, Limit, ReadFault, OutFault, TraceFault}
use Rattle.mixed_machine.specs.State.{State}
use Rattle.mixed_machine.specs.Next.{Next}
use Rattle.mixed_machine.specs.Next.Next.{Goes, Exits, Faults}
use Rattle.mixed_machine.specs.Step.{step}
use Rattle.mixed_machine.specs.Exec.{How, exec_to, goes_on, rests, is_back, Leads, GoesTo, Reads, log, said_of, line_of}
use Rattle.mixed_machine.specs.StepClauses.{Says, Tells}
use Rattle.mixed_machine.specs.Exec.How.{Limited, Exited, Faulted}
use Rattle.mixed_machine.specs.Exec.End.{Back, Ended}
use Rattle.mixed_machine.specs.Runs.{Sinks, SinksTook, Ran, ReadBroke, OutBroke, TraceBroke, Stops}
use Rattle.mixed_machine.specs.laws.Runs.{Going}
use Rattle.mixed_machine.specs.RunsClauses.{CameBack}
use Rattle.mixed_machine.proofs.Runs.{exec-continues, ends-reach, backs-continue, limits-last}
use Rattle.mixed_machine.proofs.Logs.{leads-none, leads-more, leads-append, exec-back, exec-exits, exec-faults, log-continues, log-more, log-exits, log-none}

-- nothing was put
took-none : (s : State) (o : Sinks) → SinksTook 0 s o o
took-none s o =
    record {
      said = subst (Grows o.out o.out) (sym (log-none said_of s)) (grows-none o.out);
      traced = subst (Grows o.trace o.trace) (sym (log-none line_of s)) (grows-none o.trace);
    }

-- one more step put this
took-more : (d j : ℕ) (s t u : State) (a b c : Sinks) → Leads d j s t → GoesTo (step t) u → SinksTook j s a b
    → Grows b.out c.out (said_of (step t)) → Grows b.trace c.trace (line_of (step t)) → SinksTook (j + 1) s a c
took-more d j s t u a b c leads goes took said traced =
    record {
      said = subst (Grows a.out c.out) (sym (log-more said_of d j s t u leads goes)) (grows-more a.out b.out c.out (log said_of j s) (said_of (step t)) took.said said);
      traced = subst (Grows a.trace c.trace) (sym (log-more line_of d j s t u leads goes))
          (grows-more a.trace b.trace c.trace (log line_of j s) (line_of (step t)) took.traced traced);
    }

-- more steps put this
took-append : (d i j : ℕ) (s t : State) (a b c : Sinks) → Leads d i s t → SinksTook i s a b → SinksTook j t b c → SinksTook (i + j) s a c
took-append d i j s t a b c leads first then =
    record {
      said = subst (Grows a.out c.out) (sym (log-continues said_of d i j s t leads)) (grows-more a.out b.out c.out (log said_of i s) (log said_of j t) first.said then.said);
      traced = subst (Grows a.trace c.trace) (sym (log-continues line_of d i j s t leads))
          (grows-more a.trace b.trace c.trace (log line_of i s) (log line_of j t) first.traced then.traced);
    }

grows-silent : (a b c : Output) (xs : List ℕ) → Grows a b xs → Grows b c [] → Grows a c xs
grows-silent a b c xs first then = subst (Grows a c) (append-nil xs) (grows-more a b c xs [] first then)

-- a run that begins
pub going-none : (d n : ℕ) (s : State) (o : Sinks) → is_back d s ≡ false → Going d n n s s o o
going-none d n s o stays =
    let none : 0 ≡ n - n = omega arith in
    record {
      fewer = omega arith;
      leads = subst (λ j. Leads d j s s) none (leads-none d s stays);
      took = subst (λ j. SinksTook j s o o) none (took-none s o);
    }

-- one more step is done
pub going-more : (d n left : ℕ) (s t u : State) (old now new : Sinks) → 0 < left → Going d n left s t old now → GoesTo (step t) u → is_back d u ≡ false
    → Grows now.out new.out (said_of (step t)) → Grows now.trace new.trace (line_of (step t)) → Going d n (left - 1) s u old new
going-more d n left s t u old now new some so_far goes stays said traced =
    let fewer : left ≤ n = so_far.fewer in
    let one : (n - left) + 1 ≡ n - (left - 1) = omega (arith, some, fewer) in
    record {
      fewer = omega (arith, fewer);
      leads = subst (λ j. Leads d j s u) one (leads-more d (n - left) s t u so_far.leads goes stays);
      took = subst (λ j. SinksTook j s old new) one (took-more d (n - left) s t u old now new so_far.leads goes so_far.took said traced);
    }

-- the step comes back
pub back-now : (d n left : ℕ) (s t u : State) (old now new : Sinks) → 0 < left → Going d n left s t old now → GoesTo (step t) u → is_back d u ≡ true
    → Grows now.out new.out (said_of (step t)) → Grows now.trace new.trace (line_of (step t)) → CameBack d n (left - 1) s u old new
back-now d n left s t u old now new some so_far goes back said traced =
    let fewer : left ≤ n = so_far.fewer in
    let one : (n - left) + 1 ≡ n - (left - 1) = omega (arith, some, fewer) in
    let all : (n - left) + suc (left - 1) ≡ n = omega (arith, some, fewer) in
    record {
      fewer = omega (arith, fewer);
      ends = subst (λ j. exec_to d j s ≡ Back u (left - 1)) all (exec-back d (n - left) (left - 1) s t u so_far.leads goes back);
      took = subst (λ j. SinksTook j s old new) one (took-more d (n - left) s t u old now new so_far.leads goes so_far.took said traced);
    }

-- the step limit is reached
pub limited-now : (d n left : ℕ) (s t : State) (old new : Sinks) → left ≡ 0 → Going d n left s t old new → Stops d n left s t old new Limit
limited-now d n left s t old new none so_far =
    let all : n - left ≡ n = omega (arith, none) in
    record {
      fewer = so_far.fewer;
      ends = subst (λ j. exec_to d j s ≡ Ended Limited t left) all (subst (λ l. exec_to d (n - left) s ≡ Ended Limited t l) (sym none) so_far.leads);
      took = so_far.took;
    }

-- the next step is an exit
pub exits-now : (d n left : ℕ) (s t u : State) (code : ℕ) (old now new : Sinks) → 0 < left → Going d n left s t old now
    → step t ≡ Exits code → u ≡ t → Grows now.out new.out [] → Grows now.trace new.trace [] → Stops d n (left - 1) s u old new (Exit code)
exits-now d n left s t u code old now new some so_far exits same said traced =
    let fewer : left ≤ n = so_far.fewer in
    let all : (n - left) + suc (left - 1) ≡ n = omega (arith, some, fewer) in
    let one : (n - left) + 1 ≡ n - (left - 1) = omega (arith, some, fewer) in
    record {
      fewer = omega (arith, fewer);
      ends = subst (λ v. exec_to d n s ≡ Ended (Exited code) v (left - 1)) (sym same)
          (subst (λ j. exec_to d j s ≡ Ended (Exited code) t (left - 1)) all (exec-exits d (n - left) (left - 1) s t code so_far.leads exits));
      took = subst (λ j. SinksTook j s old new) one (record {
        said = subst (Grows old.out new.out) (sym (log-exits said_of d (n - left) s t code refl so_far.leads exits)) (grows-silent old.out now.out new.out (log said_of (n - left) s) so_far.took.said said);
        traced = subst (Grows old.trace new.trace) (sym (log-exits line_of d (n - left) s t code refl so_far.leads exits))
            (grows-silent old.trace now.trace new.trace (log line_of (n - left) s) so_far.took.traced traced);
      });
    }

-- the next step can't be done
pub faults-now : (d n left : ℕ) (s t u : State) (fault : Fault) (old now new : Sinks) → 0 < left → Going d n left s t old now
    → step t ≡ Faults fault → u ≡ t → Grows now.out new.out [] → Grows now.trace new.trace [] → Stops d n left s u old new (FaultStop fault)
faults-now d n left s t u fault old now new some so_far faults same said traced =
    let fewer : left ≤ n = so_far.fewer in
    let all : (n - left) + suc (left - 1) ≡ n = omega (arith, some, fewer) in
    let back : suc (left - 1) ≡ left = omega (arith, some) in
    record {
      fewer = fewer;
      ends = subst (λ v. exec_to d n s ≡ Ended (Faulted fault) v left) (sym same) (subst (λ l. exec_to d n s ≡ Ended (Faulted fault) t l) back
          (subst (λ j. exec_to d j s ≡ Ended (Faulted fault) t (suc (left - 1))) all (exec-faults d (n - left) (left - 1) s t fault so_far.leads faults)));
      took = record {
        said = grows-silent old.out now.out new.out (log said_of (n - left) s) so_far.took.said said;
        traced = grows-silent old.trace now.trace new.trace (log line_of (n - left) s) so_far.took.traced traced;
      };
    }

-- the input failed at the next step
pub read-broke-now : (d n left : ℕ) (s t u : State) (old now new : Sinks) → 0 < left → Going d n left s t old now
    → Reads (step t) → u ≡ t → Grows now.out new.out [] → Grows now.trace new.trace [] → Stops d n left s u old new ReadFault
read-broke-now d n left s t u old now new some so_far reads same said traced =
    subst (λ v. ReadBroke d n left s v old new) (sym same) (record {
      some = some;
      fewer = so_far.fewer;
      leads = so_far.leads;
      reads = reads;
      took = record {
        said = grows-silent old.out now.out new.out (log said_of (n - left) s) so_far.took.said said;
        traced = grows-silent old.trace now.trace new.trace (log line_of (n - left) s) so_far.took.traced traced;
      };
    })

-- the output failed at the next step
pub out-broke-now : (d n left : ℕ) (s t u : State) (old now new : Sinks) → 0 < left → Going d n left s t old now
    → Says (step t) → u ≡ t → Breaks now.out new.out [] (said_of (step t)) → Grows now.trace new.trace [] → Stops d n left s u old new OutFault
out-broke-now d n left s t u old now new some so_far says same said traced =
    subst (λ v. OutBroke d n left s v old new) (sym same) (record {
      some = some;
      fewer = so_far.fewer;
      leads = so_far.leads;
      says = says;
      said = subst (λ xs. Breaks old.out new.out xs (said_of (step t))) (append-nil (log said_of (n - left) s))
          (breaks-after old.out now.out new.out (log said_of (n - left) s) [] (said_of (step t)) so_far.took.said said);
      traced = grows-silent old.trace now.trace new.trace (log line_of (n - left) s) so_far.took.traced traced;
    })

-- the trace failed at the line of the step, which is done
pub trace-broke-now : (d n left : ℕ) (s t u : State) (old now new : Sinks) → 0 < left → Going d n left s t old now
    → GoesTo (step t) u → Tells (step t) → Grows now.out new.out (said_of (step t)) → Breaks now.trace new.trace [] (line_of (step t))
    → Stops d n (left - 1) s u old new TraceFault
trace-broke-now d n left s t u old now new some so_far goes tells said traced =
    let fewer : left ≤ n = so_far.fewer in
    let one : (n - left) + 1 ≡ n - (left - 1) = omega (arith, some, fewer) in
    let same : n - left ≡ n - suc (left - 1) = omega (arith, some, fewer) in
    record {
      last = t;
      fewer = omega (arith, some, fewer);
      leads = subst (λ j. Leads d j s t) same so_far.leads;
      goes = goes;
      tells = tells;
      said = subst (λ j. Grows old.out new.out (log said_of j s)) one
          (subst (Grows old.out new.out) (sym (log-more said_of d (n - left) s t u so_far.leads goes))
          (grows-more old.out now.out new.out (log said_of (n - left) s) (said_of (step t)) so_far.took.said said));
      traced = subst (λ j. Breaks old.trace new.trace (log line_of j s) (line_of (step t))) same
          (subst (λ xs. Breaks old.trace new.trace xs (line_of (step t))) (append-nil (log line_of (n - left) s))
          (breaks-after old.trace now.trace new.trace (log line_of (n - left) s) [] (line_of (step t)) so_far.took.traced traced));
    }

-- a run of n steps is one of those that are left
rest-of : (d n left : ℕ) (s t : State) (old now : Sinks) → Going d n left s t old now → exec_to d n s ≡ exec_to d left t
rest-of d n left s t old now so_far =
    let fewer : left ≤ n = so_far.fewer in
    let all : (n - left) + left ≡ n = omega (arith, fewer) in
    subst (λ j. exec_to d j s ≡ exec_to d left t) all (exec-continues d (n - left) left s t so_far.leads)

-- the steps of a run and of one that goes on from it
added-up : (n left l : ℕ) → left ≤ n → l ≤ left → (n - left) + (left - l) ≡ n - l
added-up n left l fewer less = omega (arith, fewer, less)

-- a run down to more callers, from where this one is, ended it
ran-nested : (e d n left l : ℕ) (s t v : State) (how : How) (old now new : Sinks) → d ≤ e → Going d n left s t old now
    → Ran e left l t v how now new → Ran d n l s v how old new
ran-nested e d n left l s t v how old now new deeper so_far ran =
    let fewer : left ≤ n = so_far.fewer in
    let less : l ≤ left = ran.fewer in
    record {
      fewer = omega (arith, fewer, less);
      ends = rest-of d n left s t old now so_far ∙ ends-reach d e left l how t v deeper ran.ends;
      took = subst (λ j. SinksTook j s old new) (added-up n left l fewer less) (took-append d (n - left) (left - l) s t old now new so_far.leads so_far.took ran.took);
    }

read-nested : (e d n left l : ℕ) (s t v : State) (old now new : Sinks) → d ≤ e → Going d n left s t old now → ReadBroke e left l t v now new → ReadBroke d n l s v old new
read-nested e d n left l s t v old now new deeper so_far broke =
    let fewer : left ≤ n = so_far.fewer in
    let less : l ≤ left = broke.fewer in
    let all = added-up n left l fewer less in
    record {
      some = broke.some;
      fewer = omega (arith, fewer, less);
      leads = subst (λ j. Leads d j s v) all (leads-append d (n - left) (left - l) s t v so_far.leads (ends-reach d e (left - l) 0 Limited t v deeper broke.leads));
      reads = broke.reads;
      took = subst (λ j. SinksTook j s old new) all (took-append d (n - left) (left - l) s t old now new so_far.leads so_far.took broke.took);
    }

out-nested : (e d n left l : ℕ) (s t v : State) (old now new : Sinks) → d ≤ e → Going d n left s t old now → OutBroke e left l t v now new → OutBroke d n l s v old new
out-nested e d n left l s t v old now new deeper so_far broke =
    let fewer : left ≤ n = so_far.fewer in
    let less : l ≤ left = broke.fewer in
    let all = added-up n left l fewer less in
    record {
      some = broke.some;
      fewer = omega (arith, fewer, less);
      leads = subst (λ j. Leads d j s v) all (leads-append d (n - left) (left - l) s t v so_far.leads (ends-reach d e (left - l) 0 Limited t v deeper broke.leads));
      says = broke.says;
      said = subst (λ j. Breaks old.out new.out (log said_of j s) (said_of (step v))) all
          (subst (λ xs. Breaks old.out new.out xs (said_of (step v))) (sym (log-continues said_of d (n - left) (left - l) s t so_far.leads))
          (breaks-after old.out now.out new.out (log said_of (n - left) s) (log said_of (left - l) t) (said_of (step v)) so_far.took.said broke.said));
      traced = subst (λ j. Grows old.trace new.trace (log line_of j s)) all
          (subst (Grows old.trace new.trace) (sym (log-continues line_of d (n - left) (left - l) s t so_far.leads))
          (grows-more old.trace now.trace new.trace (log line_of (n - left) s) (log line_of (left - l) t) so_far.took.traced broke.traced));
    }

trace-nested : (e d n left l : ℕ) (s t v : State) (old now new : Sinks) → d ≤ e → Going d n left s t old now → TraceBroke e left l t v now new → TraceBroke d n l s v old new
trace-nested e d n left l s t v old now new deeper so_far broke =
    let fewer : left ≤ n = so_far.fewer in
    let less : l < left = broke.fewer in
    let all : (n - left) + (left - l) ≡ n - l = omega (arith, fewer, less) in
    let before : (n - left) + (left - suc l) ≡ n - suc l = omega (arith, fewer, less) in
    record {
      last = broke.last;
      fewer = omega (arith, fewer, less);
      leads = subst (λ j. Leads d j s broke.last) before
          (leads-append d (n - left) (left - suc l) s t broke.last so_far.leads (ends-reach d e (left - suc l) 0 Limited t broke.last deeper broke.leads));
      goes = broke.goes;
      tells = broke.tells;
      said = subst (λ j. Grows old.out new.out (log said_of j s)) all
          (subst (Grows old.out new.out) (sym (log-continues said_of d (n - left) (left - l) s t so_far.leads))
          (grows-more old.out now.out new.out (log said_of (n - left) s) (log said_of (left - l) t) so_far.took.said broke.said));
      traced = subst (λ j. Breaks old.trace new.trace (log line_of j s) (line_of (step broke.last))) before
          (subst (λ xs. Breaks old.trace new.trace xs (line_of (step broke.last))) (sym (log-continues line_of d (n - left) (left - suc l) s t so_far.leads))
          (breaks-after old.trace now.trace new.trace (log line_of (n - left) s) (log line_of (left - suc l) t) (line_of (step broke.last)) so_far.took.traced broke.traced));
    }

pub nested-stops : (e d n left l : ℕ) (s t v : State) (old now new : Sinks) (stop : Stop) → d ≤ e → Going d n left s t old now
    → Stops e left l t v now new stop → Stops d n l s v old new stop
nested-stops e d n left l s t v old now new (Exit code) deeper so_far stops = ran-nested e d n left l s t v (Exited code) old now new deeper so_far stops
nested-stops e d n left l s t v old now new (FaultStop fault) deeper so_far stops = ran-nested e d n left l s t v (Faulted fault) old now new deeper so_far stops
nested-stops e d n left l s t v old now new Limit deeper so_far stops = ran-nested e d n left l s t v Limited old now new deeper so_far stops
nested-stops e d n left l s t v old now new ReadFault deeper so_far stops = read-nested e d n left l s t v old now new deeper so_far stops
nested-stops e d n left l s t v old now new OutFault deeper so_far stops = out-nested e d n left l s t v old now new deeper so_far stops
nested-stops e d n left l s t v old now new TraceFault deeper so_far stops = trace-nested e d n left l s t v old now new deeper so_far stops

-- a run that came back, without the steps that it had left
Shortened : ℕ → ℕ → ℕ → State → State → Type 0
Shortened d n left s t = (j : ℕ) × (j + left ≡ n) × (exec_to d j s ≡ Back t 0)

state_back : (b : Bool) (s t : State) (left : ℕ) → rests b s ≡ Back t left → (left ≡ 0) × (rests b s ≡ Back t 0)
state_back true s t zero ends = (refl, ends)
state_back true s t (suc left) ends = cc
state_back false s t left ends = cc

short-step : (b : Bool) (x : Next) (s t : State) (d n left : ℕ) → b ≡ is_back d s → x ≡ step s
    → ((u : State) → exec_to d n u ≡ Back t left → Shortened d n left u t) → goes_on b x s n (exec_to d n) ≡ Back t left → Shortened d (suc n) left s t
unfolding Shortened exec_to
short-step true x s t d n left same is rest ends =
    let here : s ≡ t = cc in
    let none : suc n ≡ left = cc in
    (0, omega (arith, none), ap (λ c. rests c s) (sym same) ∙ ap (λ u. Back u 0) here)
short-step false (Goes u effects) s t d n left same is rest ends =
    let short = rest u ends in
    let sum : short.0 + left ≡ n = short.1 in
    (suc short.0, omega (arith, sum), ap (λ c. goes_on c (step s) s short.0 (exec_to d short.0)) (sym same) ∙ (ap (λ y. goes_on false y s short.0 (exec_to d short.0)) (sym is) ∙ short.2))
short-step false (Exits code) s t d n left same is rest ends = cc
short-step false (Faults fault) s t d n left same is rest ends = cc

shortened : (d n left : ℕ) (s t : State) → exec_to d n s ≡ Back t left → Shortened d n left s t
unfolding Shortened exec_to
shortened d zero left s t ends =
    let back = state_back (is_back d s) s t left ends in
    let none : left ≡ 0 = back.0 in
    (0, omega (arith, none), back.1)
shortened d (suc n) left s t ends = short-step (is_back d s) (step s) s t d n left refl refl (λ u. shortened d n left u t) ends

-- a run down to more callers came back, and this one goes on there
pub nested-back : (e d n left l : ℕ) (s t v : State) (old now new : Sinks) → d ≤ e → Going d n left s t old now
    → CameBack e left l t v now new → is_back d v ≡ false → Going d n l s v old new
unfolding Shortened
nested-back e d n left l s t v old now new deeper so_far came stays =
    let fewer : left ≤ n = so_far.fewer in
    let less : l ≤ left = came.fewer in
    let short = shortened e left l t v came.ends in
    let sum : short.0 + l ≡ left = short.1 in
    let j_is : short.0 ≡ left - l = omega (arith, sum) in
    let leads : Leads d (left - l) t v =
    subst (λ j. Leads d j t v) j_is (backs-continue d e short.0 0 t v deeper short.2 ∙ leads-none d v stays) in
    let all = added-up n left l fewer less in
    record {
      fewer = omega (arith, fewer, less);
      leads = subst (λ j. Leads d j s v) all (leads-append d (n - left) (left - l) s t v so_far.leads leads);
      took = subst (λ j. SinksTook j s old new) all (took-append d (n - left) (left - l) s t old now new so_far.leads so_far.took came.took);
    }

-- a run that was cut, and continued
pub cut-stops : (n m left l : ℕ) (s t u : State) (a b c : Sinks) (stop : Stop) → Stops 0 n left s t a b Limit → Stops 0 m l t u b c stop → Stops 0 (n + m) l s u a c stop
cut-stops n m left l s t u a b c stop first then =
    let ran : Ran 0 n left s t Limited a b = first in
    let last : left ≡ 0 = limits-last 0 n left s t ran.ends in
    let done : n - left ≡ (n + m) - m = omega (arith, last) in
    let leads : Leads 0 n s t = subst (λ l. exec_to 0 n s ≡ Ended Limited t l) last ran.ends in
    let all : n ≡ (n + m) - m = omega arith in
    let so_far : Going 0 (n + m) m s t a b =
    record { fewer = omega arith; leads = subst (λ j. Leads 0 j s t) all leads; took = subst (λ j. SinksTook j s a b) done ran.took } in
    nested-stops 0 0 (n + m) m l s t u a b c stop (omega arith) so_far then
