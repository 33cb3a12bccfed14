-- A walk on its way, and how it goes on.
use Rattle.std.proofs.Common.{◌≡◌, ℕ, suc, ◌+◌, ◌-◌, ◌≤◌, List, [], ◌++◌, length, Option, refl, sym, ap, ◌∙◌, subst, append-nil, append_assoc, length-append, arith}
use Rattle.mix_io.specs.Streams.{Breaks, Grows, Output}
use Rattle.mix_io.proofs.Streams.{breaks-after, grows-more, grows-none}
use Rattle.mixed_machine.specs.declared.stop.Stop.TheVariants as By
use Rattle.mixed_machine.specs.Exec.{Leads, line_of, log, said_of}
use Rattle.mixed_machine.specs.Exec.End.{Ended}
use Rattle.mixed_machine.specs.Exec.How.{Limited}
use Rattle.mixed_machine.specs.Next.{Next}
use Rattle.mixed_machine.specs.Runs.{Sinks, SinksTook}
use Rattle.mixed_machine.specs.State.{State}
use Rattle.mixed_machine.proofs.Logs.{log-continues}
use Rattle.mixed_machine.proofs.Runs.{exec-continues}
use Rattle.gdb_steps.specs.Places.{Begin, Given, IsRun, Place, Run, answers_of, first_state, state_at}
use Rattle.gdb_steps.specs.Points.{Points}
use Rattle.gdb_steps.specs.Walks.{Comes, GoesForward, Tells, halts, walk}
use Rattle.gdb_steps.specs.declared.halt.Halt.{Halt}
use Rattle.gdb_steps.specs.declared.halt.Halt.TheVariants.{Arrived, Beginning, Breakpoint, End, Spent, Strayed, Watched}
use Rattle.gdb_steps.specs.declared.halt.Until.{Until}
use Rattle.gdb_steps.specs.inner.Goings.{Going, More, given}
use Rattle.gdb_steps.proofs.Growing.{first-more, state-more}

pub first-given : (b : Begin) (g h : Given) (more : More g h) (rest : List (Option ℕ)) → first_state b h rest ≡ first_state b g (answers_of more.asks rest)
first-given b g h more rest = ap (λ k. first_state b k rest) more.is ∙ first-more b g.input g.journal more.asks g.slots rest

pub state-given : (g h : Given) (p : Place) (more : More g h) (rest : List (Option ℕ)) → p.used.asks ≤ length g.journal → state_at h p rest ≡ state_at g p (answers_of more.asks rest)
state-given g h p more rest few = ap (λ k. state_at k p rest) more.is ∙ state-more p g.input g.journal more.asks g.slots rest few

pub more-none : (g : Given) → More g g
more-none g = record { asks = []; is = ap (λ j. given g.input j g.slots) (sym (append-nil g.journal)) }

pub more-both : (g h k : Given) → More g h → More h k → More g k
more-both g h k first then =
    record {
      asks = first.asks ++ then.asks;
      is = then.is ∙ (ap (λ x. given x.input (x.journal ++ then.asks) x.slots) first.is ∙ ap (λ j. given g.input j g.slots) (append_assoc g.journal first.asks then.asks));
    }

pub more-short : (g h : Given) (n : ℕ) → More g h → n ≤ length g.journal → n ≤ length h.journal
more-short g h n more few =
    let both = length-append g.journal more.asks in
    let long : length h.journal ≡ length (g.journal ++ more.asks) = ap (λ k. length k.journal) more.is in
    omega (arith, both, long, few)

no-step : (n : ℕ) → n - n ≡ 0
no-step n = omega arith

pub log-none : (pick : Next → List ℕ) (s : State) (n : ℕ) → n ≡ 0 → log pick n s ≡ []
unfolding log
log-none pick s n none = ap (λ k. log pick k s) none

pub took-none : (n : ℕ) (t : State) (a : Sinks) → n ≡ 0 → SinksTook n t a a
took-none n t a none =
    record { said = subst (Grows a.out a.out) (sym (log-none said_of t n none)) (grows-none a.out); traced = subst (Grows a.trace a.trace) (sym (log-none line_of t n none)) (grows-none a.trace) }

pub going-none : (b : Begin) (p : Points) (until : Until) (n : ℕ) (r : Run) (a : Sinks) → IsRun b r → Going b p until n n r r a a
going-none b p until n r a is =
    record {
      run = is;
      more = more-none r.given;
      few = is.here.asks;
      count = refl;
      less = at-most n;
      further = at-most r.furthest;
      walks = λ rest. refl;
      told = λ rest t leads. took-none (r.furthest - r.furthest) t a (no-step r.furthest);
    }
  where
    at-most : (k : ℕ) → k ≤ k
    at-most k = omega arith

-- ---- what is told, by more steps

between-both : (a b c : ℕ) → a ≤ b → b ≤ c → (b - a) + (c - b) ≡ c - a
between-both a b c h k = omega (arith, h, k)

ended-same : (s t : State) → Ended Limited s 0 ≡ Ended Limited t 0 → s ≡ t
ended-same s t e = cc

-- from the state at one place so many steps lead to that at a further one
led-between : (m n : ℕ) (s t u : State) → m ≤ n → Leads 0 m s t → Leads 0 n s u → Leads 0 (n - m) t u
led-between m n s t u few first whole = sym (exec-continues 0 m (n - m) s t first) ∙ subst (λ k. Leads 0 k s u) (sym (up m n few)) whole
  where
    up : (m n : ℕ) → m ≤ n → m + (n - m) ≡ n
    up m n few = omega (arith, few)

leads-both : (i j : ℕ) (s t u : State) → Leads 0 i s t → Leads 0 j t u → Leads 0 (i + j) s u
leads-both i j s t u first then = exec-continues 0 i j s t first ∙ then

took-both : (i j : ℕ) (s t : State) (a b c : Sinks) → Leads 0 i s t → SinksTook i s a b → SinksTook j t b c → SinksTook (i + j) s a c
took-both i j s t a b c leads first then =
    record {
      said = subst (Grows a.out c.out) (sym (log-continues said_of 0 i j s t leads)) (grows-more a.out b.out c.out _ _ first.said then.said);
      traced = subst (Grows a.trace c.trace) (sym (log-continues line_of 0 i j s t leads)) (grows-more a.trace b.trace c.trace _ _ first.traced then.traced);
    }

breaks-both : (pick : Next → List ℕ) (i j : ℕ) (s t : State) (piece : List ℕ) (a b c : Output) → Leads 0 i s t → Grows a b (log pick i s) → Breaks b c (log pick j t) piece → Breaks a c (log pick (i + j) s) piece
breaks-both pick i j s t piece a b c leads first then =
    subst (λ xs. Breaks a c xs piece) (sym (log-continues pick 0 i j s t leads)) (breaks-after a b c _ _ piece first then)

grows-both : (pick : Next → List ℕ) (i j : ℕ) (s t : State) (a b c : Output) → Leads 0 i s t → Grows a b (log pick i s) → Grows b c (log pick j t) → Grows a c (log pick (i + j) s)
grows-both pick i j s t a b c leads first then =
    subst (Grows a c) (sym (log-continues pick 0 i j s t leads)) (grows-more a b c _ _ first then)

suc-behind : (i j : ℕ) → i + suc j ≡ suc (i + j)
suc-behind i j = omega arith

tells-both : (halt : Halt) (i j : ℕ) (s t : State) (a b c : Sinks) → Leads 0 i s t → SinksTook i s a b → Tells halt j t b c → Tells halt (i + j) s a c
tells-both Breakpoint i j s t a b c leads first then = took-both i j s t a b c leads first then
tells-both (Watched at) i j s t a b c leads first then = took-both i j s t a b c leads first then
tells-both Arrived i j s t a b c leads first then = took-both i j s t a b c leads first then
tells-both Spent i j s t a b c leads first then = took-both i j s t a b c leads first then
tells-both Beginning i j s t a b c leads first then = took-both i j s t a b c leads first then
tells-both Strayed i j s t a b c leads first then = took-both i j s t a b c leads first then
tells-both (End (By.Exit code)) i j s t a b c leads first then = took-both i j s t a b c leads first then
tells-both (End (By.Fault fault)) i j s t a b c leads first then = took-both i j s t a b c leads first then
tells-both (End By.Limit) i j s t a b c leads first then = took-both i j s t a b c leads first then
tells-both (End By.ReadFault) i j s t a b c leads first then = took-both i j s t a b c leads first then
tells-both (End By.OutFault) i j s t a b c leads first then =
    (then.0, leads-both i j s t then.0 leads then.1, breaks-both said_of i j s t _ a.out b.out c.out leads first.said then.2, grows-both line_of i j s t a.trace b.trace c.trace leads first.traced then.3)
tells-both (End By.TraceFault) i j s t a b c leads first then = (
  i + then.0,
  then.1,
  ap (λ k. i + k) then.2 ∙ suc-behind i then.0,
  leads-both i then.0 s t then.1 leads then.3,
  grows-both said_of i j s t a.out b.out c.out leads first.said then.4,
  breaks-both line_of i then.0 s t _ a.trace b.trace c.trace leads first.traced then.5,
)

-- the state at the furthest place of a run, from the one at an earlier furthest place
further-told : (b : Begin) (r s : Run) (rest : List (Option ℕ)) (t : State) → r.furthest ≤ s.furthest → (is : IsRun b s) → Leads 0 r.furthest (first_state b s.given rest) t
    → Leads 0 (s.furthest - r.furthest) t (state_at s.given is.last rest)
further-told b r s rest t further is leads = led-between r.furthest s.furthest _ t _ further leads (is.reached.leads rest)

-- ---- more steps of a walk

pub going-more : (b : Begin) (p : Points) (until : Until) (n m left : ℕ) (r s t : Run) (x y z : Sinks)
    → Going b p until n m r s x y → Going b p until m left s t y z → Going b p until n left r t x z
going-more b p until n m left r s t x y z first then =
    record {
      run = then.run;
      more = more-both r.given s.given t.given first.more then.more;
      few = first.few;
      count = (let one = first.count in let two = then.count in omega (arith, one, two));
      less = (let one = first.less in let two = then.less in omega (arith, one, two));
      further = (let one = first.further in let two = then.further in omega (arith, one, two));
      walks = λ rest. walk-before rest ∙ then.walks rest;
      told = λ rest u leads.
          let was : Leads 0 r.furthest (first_state b s.given (answers_of then.more.asks rest)) u = subst (λ v. Leads 0 r.furthest v u) (first-given b s.given t.given then.more rest) leads in
          let far : State = state_at s.given first.run.last (answers_of then.more.asks rest) in
          let on : Leads 0 (s.furthest - r.furthest) u far = further-told b r s (answers_of then.more.asks rest) u first.further first.run was in
          let whole : Leads 0 s.furthest (first_state b t.given rest) far =
          subst (λ v. Leads 0 s.furthest v far) (sym (first-given b s.given t.given then.more rest)) (first.run.reached.leads (answers_of then.more.asks rest)) in
          subst (λ k. SinksTook k u x z) (between-both r.furthest s.furthest t.furthest first.further then.further)
          (took-both (s.furthest - r.furthest) (t.furthest - s.furthest) u far x y z on (first.told (answers_of then.more.asks rest) u was) (then.told rest far whole));
    }
  where
    longer : r.here.used.asks ≤ length s.given.journal
    longer = more-short r.given s.given r.here.used.asks first.more first.few

    walk-before : (rest : List (Option ℕ)) → walk p until n (state_at t.given r.here rest) ≡ walk p until m (state_at t.given s.here rest)
    walk-before rest =
        ap (walk p until n) (state-given s.given t.given r.here then.more rest longer)
        ∙ (first.walks (answers_of then.more.asks rest) ∙ ap (walk p until m) (sym (state-given s.given t.given s.here then.more rest then.few)))

comes-after : (p : Points) (until : Until) (n m left : ℕ) (halt : Halt) (s t u : State) → walk p until n s ≡ walk p until m t → Comes p until m left halt t u → Comes p until n left halt s u
comes-after p until n m left Breakpoint s t u is comes = is ∙ comes
comes-after p until n m left (Watched at) s t u is comes = is ∙ comes
comes-after p until n m left Arrived s t u is comes = is ∙ comes
comes-after p until n m left Spent s t u is comes = is ∙ comes
comes-after p until n m left Beginning s t u is comes = is ∙ comes
comes-after p until n m left Strayed s t u is comes = is ∙ comes
comes-after p until n m left (End (By.Exit code)) s t u is comes = is ∙ comes
comes-after p until n m left (End (By.Fault fault)) s t u is comes = is ∙ comes
comes-after p until n m left (End By.Limit) s t u is comes = is ∙ comes
comes-after p until n m left (End By.ReadFault) s t u is comes = is ∙ comes
comes-after p until n m left (End By.OutFault) s t u is comes = is ∙ comes
comes-after p until n m left (End By.TraceFault) s t u is comes = (comes.0, is ∙ comes.1, comes.2)

-- a walk that went on, and then halted
pub going-halts : (b : Begin) (p : Points) (until : Until) (n m : ℕ) (halt : Halt) (r s t : Run) (x y z : Sinks)
    → Going b p until n m r s x y → GoesForward b p until m halt s t y z → GoesForward b p until n halt r t x z
going-halts b p until n m halt r s t x y z first then =
    record {
      run = then.run;
      later = (let one = first.count in let less = first.less in let two = then.later in omega (arith, one, less, two));
      within = (let one = first.count in let two = then.within in omega (arith, one, two));
      further = (let one = first.further in let two = then.further in omega (arith, one, two));
      more = (
        (more-both r.given s.given t.given first.more onward).asks,
        (more-both r.given s.given t.given first.more onward).is,
      );
      comes = λ rest.
          subst (λ left. Comes p until n left halt (state_at t.given r.here rest) (state_at t.given t.here rest)) (same-left s.steps m r.steps n t.steps first.count)
          (comes-after p until n m (s.steps + m - t.steps) halt (state_at t.given r.here rest) (state_at t.given s.here rest) (state_at t.given t.here rest) (walk-before rest) (then.comes rest));
      told = λ rest u leads.
          let was : Leads 0 r.furthest (first_state b s.given (answers_of onward.asks rest)) u = subst (λ v. Leads 0 r.furthest v u) (first-given b s.given t.given onward rest) leads in
          let far : State = state_at s.given first.run.last (answers_of onward.asks rest) in
          let on : Leads 0 (s.furthest - r.furthest) u far = further-told b r s (answers_of onward.asks rest) u first.further first.run was in
          let whole : Leads 0 s.furthest (first_state b t.given rest) far =
          subst (λ v. Leads 0 s.furthest v far) (sym (first-given b s.given t.given onward rest)) (first.run.reached.leads (answers_of onward.asks rest)) in
          subst (λ k. Tells halt k u x z) (between-both r.furthest s.furthest t.furthest first.further then.further)
          (tells-both halt (s.furthest - r.furthest) (t.furthest - s.furthest) u far x y z on (first.told (answers_of onward.asks rest) u was) (then.told rest far whole));
    }
  where
    onward : More s.given t.given
    onward = record { asks = then.more.0; is = then.more.1 }

    longer : r.here.used.asks ≤ length s.given.journal
    longer = more-short r.given s.given r.here.used.asks first.more first.few

    walk-before : (rest : List (Option ℕ)) → walk p until n (state_at t.given r.here rest) ≡ walk p until m (state_at t.given s.here rest)
    walk-before rest =
        ap (walk p until n) (state-given s.given t.given r.here onward rest longer)
        ∙ (first.walks (answers_of onward.asks rest) ∙ ap (walk p until m) (sym (state-given s.given t.given s.here onward rest first.run.here.asks)))

    same-left : (s m r n t : ℕ) → s + m ≡ r + n → s + m - t ≡ r + n - t
    same-left s m r n t is = ap (λ k. k - t) is

-- a walk of which no step is left
pub going-ends : (b : Begin) (p : Points) (until : Until) (n : ℕ) (r s : Run) (x y : Sinks) → Going b p until n 0 r s x y → GoesForward b p until n Spent r s x y
unfolding walk
going-ends b p until n r s x y going =
    record {
      run = going.run;
      later = (let one = going.count in let less = going.less in omega (arith, one, less));
      within = (let one = going.count in omega (arith, one));
      further = going.further;
      more = (going.more.asks, going.more.is);
      comes = λ rest. going.walks rest ∙ ap (λ left. halts left (state_at s.given s.here rest) Spent) (none s.steps r.steps n going.count);
      told = going.told;
    }
  where
    none : (s r n : ℕ) → s + 0 ≡ r + n → 0 ≡ r + n - s
    none s r n is = omega (arith, is)
