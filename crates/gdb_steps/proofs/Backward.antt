-- Other places of the same run, and what would stop a walk back on the way.
use Rattle.std.proofs.Common.{◌≡◌, ℕ, suc, ◌+◌, ◌<◌, ◌≤◌, ◌⊎◌, inl, inr, true, false, List, [], ◌∷◌, MatchResult, Option, None, Some, Result, Ok, Err, refl, sym, ap, ◌∙◌, subst, arith}
use Rattle.std.proofs.lemmas.Bool.{cases_lt}
use Rattle.mixed_machine.specs.Exec.{Leads}
use Rattle.mixed_machine.specs.State.{seen}
use Rattle.mixed_machine.proofs.Runs.{exec-continues}
use Rattle.mix_debug.specs.Machines.{IsSound}
use Rattle.gdb_steps.specs.Backs.{Passes, StopsBack, halt_back}
use Rattle.gdb_steps.specs.Places.{ArePlaces, Begin, Given, IsPlace, IsRun, Place, Run, first_state, state_at}
use Rattle.gdb_steps.specs.Points.{Points, halt_at}
use Rattle.gdb_steps.specs.Walks.{Strays}
use Rattle.gdb_steps.specs.WalkersClauses.{Moved}
use Rattle.gdb_steps.specs.declared.found.Found.{Found}
use Rattle.gdb_steps.specs.declared.halt.Halt.{Halt}
use Rattle.gdb_steps.specs.declared.halt.Until.{Until}
use Rattle.gdb_steps.specs.declared.lost.Lost.{Lost}
use Rattle.gdb_steps.specs.declared.lost.Lost.TheVariants as By
use Rattle.gdb_steps.specs.inner.Backing.{IsFirst, IsLast, IsLost, Returns, StopsAt}
use Rattle.gdb_steps.proofs.Firsting.{only-state}
use Rattle.gdb_steps.proofs.Onward.{seen-bytes}

suc-same : (m n : ℕ) → suc m ≡ suc n → m ≡ n
suc-same m n e = omega (arith, e)

back-at : (b : Begin) (r : Run) (p : Place) (ps : List Place) (n : ℕ) → r.steps ≡ suc n → ArePlaces b r.given r.steps (p ∷ ps) → IsRun b r → IsRun b (record r { here = p; past = ps; steps = n })
back-at b r p ps n is are run =
    let m_is : are.0 ≡ n = suc-same are.0 n (sym are.1 ∙ is) in
    record {
      input = run.input;
      here = subst (λ k. IsPlace b r.given k p) m_is are.2;
      past = subst (λ k. ArePlaces b r.given k ps) m_is are.3;
      order = less n r.steps r.furthest is run.order;
      last = run.last;
      reached = run.reached;
      asked = run.asked;
      held = run.held;
      kept = run.kept;
    }
  where
    less : (n k f : ℕ) → k ≡ suc n → k ≤ f → n ≤ f
    less n k f e h = omega (arith, e, h)

back-by : (b : Begin) (r s : Run) (ps : List Place) → r.past ≡ ps → Returns true ps r s → IsRun b r → IsRun b s
back-by b r s [] is returns run = absurd returns
back-by b r s (p ∷ ps) is returns run =
    subst (IsRun b) (sym returns.1) (back-at b r p ps s.steps returns.0 (subst (ArePlaces b r.given r.steps) is run.past) run)

pub back-run : (b : Begin) (r s : Run) → Returns true r.past r s → IsRun b r → IsRun b s
back-run b r s returns run = back-by b r s r.past refl returns run

pub none-by : (r s : Run) (ps : List Place) → r.past ≡ ps → Returns false ps r s → (r.past ≡ []) × (s ≡ r)
none-by r s [] is returns = (is, returns)
none-by r s (p ∷ ps) is returns = absurd returns

pub returned : (r s : Run) (ps : List Place) → Returns true ps r s → (r.steps ≡ suc s.steps) × (s ≡ record r { here = s.here; past = s.past; steps = s.steps })
returned r s [] returns = absurd returns
returned r s (p ∷ ps) returns =
    (returns.0, returns.1 ∙ ap (λ (x : Run). record r { here = x.here; past = x.past; steps = s.steps }) (sym returns.1))

-- ---- another place of the same run

pub moved-none : (r : Run) → Moved r r
moved-none r = record { run = λ b is. is; same = refl }

pub moved-join : (r s t : Run) → Moved r s → Moved s t → Moved r t
moved-join r s t first more =
    record {
      run = λ b is. more.run b (first.run b is);
      same = more.same ∙ ap (λ (x : Run). record x { here = t.here; past = t.past; steps = t.steps }) first.same;
    }

pub moved-back : (r s : Run) → Returns true r.past r s → Moved r s
moved-back r s returns = record { run = λ b is. back-run b r s returns is; same = (returned r s r.past returns).1 }

pub moved-given : (r s : Run) → Moved r s → s.given ≡ r.given
moved-given r s moved = ap (λ (x : Run). x.given) moved.same

pub moved-furthest : (r s : Run) → Moved r s → s.furthest ≡ r.furthest
moved-furthest r s moved = ap (λ (x : Run). x.furthest) moved.same

pub lost-after : (lost : Lost) (r s t : Run) → Moved r s → IsLost lost s t → IsLost lost r t
lost-after By.NoMemory r s t first more = moved-join r s t first more
lost-after By.Strayed r s t first more = λ b is. subst (λ (x : Run). Strays b x.given x.furthest) first.same (more b (first.run b is))

pub moved-same : (r s : Run) → s ≡ r → Moved r s
moved-same r s same = subst (λ x. Moved r x) (sym same) (moved-none r)

pub moved-rack : (r s : Run) → Moved r s → s.rack ≡ r.rack
moved-rack r s moved = ap (λ (x : Run). x.rack) moved.same

pub lost-result : {A : Type 0} (result : Result A Lost) (lost : Lost) (done : A → Type 0) (r s t : Run) → result ≡ Err lost → Moved r s → IsLost lost s t → MatchResult result done (λ l. IsLost l r t)
lost-result result lost done r s t is first more = subst (λ e. MatchResult e done (λ l. IsLost l r t)) (sym is) (lost-after lost r s t first more)

pub moves-result : {A : Type 0} (r s t : Run) (there : Type 0) (result : Result A Lost) → Moved r s → MatchResult result (λ done. Moved s t × there) (λ lost. IsLost lost s t)
    → MatchResult result (λ done. Moved r t × there) (λ lost. IsLost lost r t)
moves-result r s t there (Ok done) first is = (moved-join r s t first is.0, is.1)
moves-result r s t there (Err lost) first is = lost-after lost r s t first is

-- ---- what stops a walk back over a step between two places

one-more : (n : ℕ) → n + 1 ≡ suc n
one-more n = omega arith

pub stops-between : (b : Begin) (p : Points) (until : Until) (g : Given) (n : ℕ) (x y : Place) (halt : Option Halt) → IsPlace b g n x → IsPlace b g (suc n) y → IsSound x.machine → IsSound y.machine
    → halt_at p until y.machine.body.ram.bytes x.machine.body.ram.bytes x.machine.active ≡ halt → StopsBack b p until g n halt
stops-between b p until g n x y halt here there old new is =
    λ more s t one two.
    let from : state_at g x more ≡ s = only-state n _ _ _ (here.leads more) one in
    let led : Leads 0 (suc n) (first_state b g more) t = subst (λ k. Leads 0 k (first_state b g more) t) (one-more n) (exec-continues 0 n 1 (first_state b g more) s one ∙ two) in
    let to : state_at g y more ≡ t = only-state (suc n) _ _ _ (there.leads more) led in
    subst (λ u. halt_back p until u t ≡ halt) from
    (subst (λ u. halt_back p until (state_at g x more) u ≡ halt) to
    (ap (λ bytes. halt_at p until (seen (state_at g y more)).bytes bytes x.machine.active) (seen-bytes x.machine (state_at g x more).around old)
    ∙ (ap (λ bytes. halt_at p until bytes x.machine.body.ram.bytes x.machine.active) (seen-bytes y.machine (state_at g y more).around new) ∙ is)))

-- ---- steps that nothing stops

pub passes-none : (b : Begin) (p : Points) (until : Until) (g : Given) (n : ℕ) → Passes b p until g n n
passes-none b p until g n = λ k low high. absurd (omega (arith, low, high))

pub passes-join : (b : Begin) (p : Points) (until : Until) (g : Given) (low mid high : ℕ) → Passes b p until g low mid → Passes b p until g mid high → Passes b p until g low high
passes-join b p until g low mid high first more = λ k from to. by k from to (cases_lt k mid)
  where
    by : (k : ℕ) → low ≤ k → k < high → (k < mid) ⊎ (mid ≤ k) → StopsBack b p until g k None
    by k from to (inl less) = first k from less
    by k from to (inr past) = more k past to

pub passes-one : (b : Begin) (p : Points) (until : Until) (g : Given) (n : ℕ) → StopsBack b p until g n None → Passes b p until g n (suc n)
passes-one b p until g n is = λ k low high. let same : n ≡ k = omega (arith, low, high) in subst (λ m. StopsBack b p until g m None) same is

pub first-join : (b : Begin) (p : Points) (until : Until) (g : Given) (low mid high : ℕ) (halt : Option Halt) → mid ≤ high → IsFirst b p until g low mid halt → Passes b p until g mid high → IsFirst b p until g low high halt
first-join b p until g low mid high None few first more = passes-join b p until g low mid high first more
first-join b p until g low mid high (Some halt) few first more =
    (less low mid high first.0 few, first.1, passes-join b p until g (suc low) mid high first.2 more)
  where
    less : (l m h : ℕ) → l < m → m ≤ h → l < h
    less l m h x y = omega (arith, x, y)

pub first-stop : (b : Begin) (p : Points) (until : Until) (g : Given) (n : ℕ) (halt : Halt) → StopsAt b p until g n halt → IsFirst b p until g n (suc n) (Some halt)
first-stop b p until g n halt is = (up n, is, passes-none b p until g (suc n))
  where
    up : (k : ℕ) → k < suc k
    up k = omega arith

-- ---- the last place at which it stops

pub last-none : (b : Begin) (p : Points) (until : Until) (g : Given) (n : ℕ) → IsLast b p until g n n None
last-none b p until g n = passes-none b p until g n

pub last-more : (b : Begin) (p : Points) (until : Until) (g : Given) (low n : ℕ) (found : Option Found) → StopsBack b p until g n None → IsLast b p until g low n found → IsLast b p until g low (suc n) found
last-more b p until g low n None is so_far = passes-join b p until g low n (suc n) so_far (passes-one b p until g n is)
last-more b p until g low n (Some found) is so_far =
    (so_far.0, up found.steps n so_far.1, so_far.2, passes-join b p until g (suc found.steps) n (suc n) so_far.3 (passes-one b p until g n is))
  where
    up : (k m : ℕ) → k < m → k < suc m
    up k m h = omega (arith, h)

pub last-new : (b : Begin) (p : Points) (until : Until) (g : Given) (low n : ℕ) (halt : Halt) → low ≤ n → StopsAt b p until g n halt → IsLast b p until g low (suc n) (Some (record { steps = n; halt = halt }))
last-new b p until g low n halt few is = (few, up n, is, passes-none b p until g (suc n))
  where
    up : (k : ℕ) → k < suc k
    up k = omega arith
