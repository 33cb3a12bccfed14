-- A run that was cut, kept and continued is the uncut run.
use Rattle.std.proofs.Common.{◌≡◌, ℕ, ◌+◌, ◌-◌, ◌≤◌, ◌==◌, inl, inr, Bool, true, false, if◌then◌else◌, List, [], ◌++◌, map, Option, Some, None, is_some, arith, sym, ap, subst, ◌∙◌, refl, append-nil}
use Rattle.std.specs.Prelude.{IsSomeAnd, bytes_eq}
use Rattle.std.proofs.lemmas.Slice.Eq.{bytes_eq-Decides}
use Rattle.mix_io.specs.Kept.{KeepsMore}
use Rattle.mix_io.specs.Streams.{Output, Grows}
use Rattle.switch_frame.specs.Records.{isa_of}
use Rattle.toolbox.specs.declared.broken.Broken.{Broken}
use Rattle.toolbox.specs.declared.broken.Broken.TheVariants.{Input, Output as BrokenOutput, Trace}
use Rattle.toolbox.specs.Effects.{Around}
use Rattle.call_trace.specs.Lines.{end_line}
use Rattle.call_trace.specs.declared.end.End.TheVariants.{Limit}
use Rattle.mixed_machine.specs.State.{State}
use Rattle.mixed_machine.specs.Next.{Next}
use Rattle.mixed_machine.specs.Machine.{flat}
use Rattle.mixed_machine.specs.Exec.{How, exec, log, said_of, line_of}
use Rattle.mixed_machine.specs.Exec.How.{Limited, Exited, Faulted}
use Rattle.mixed_machine.specs.Exec.End.{Ended}
use Rattle.mixed_machine.specs.Outside.{ToldAll}
use Rattle.toolbox.specs.Calls.{around_at}
use Rattle.mixed_machine.proofs.Logs.{log-continues}
use Rattle.mixed_machine.proofs.Over.{told-both, took-append}
use Rattle.mixed_machine.proofs.Runs.{exec-continues, limits-last}
use Rattle.mix_engine.specs.declared.machine.Machine.{Machine}
use Rattle.mix_image.specs.Spelling.{HasSpelling, spell}
use Rattle.mix_image.proofs.Finishing.{spellings_differ}
use Rattle.mix_top.specs.World.{Beside, Closes, Keep}
use Rattle.mix_top.specs.Keeping.{KeptAt}
use Rattle.mix_top.specs.Running.{RunWay, broken_status, status_of}
use Rattle.mix_top.specs.declared.ending.Ending.{Ending}
use Rattle.mix_top.specs.laws.Running.{answers_given}
use Rattle.mixed_machine.specs.Endings.{end_of}
use Rattle.mix_top.specs.Running.RunWay.{broke, ended, keep_failed}
use Rattle.mix_top.specs.Continuing.ContinueWay.{continued, image_refused, no_memory}
use Rattle.mix_top.specs.laws.Laws.{AreOneRun, ContinuedRunsAreOne, IsBetween, IsEnd, TookBoth}

-- a status of an end is none of a failure
pub record IsCalm (result : ℕ) : Type 0 where
  pub refused : result ≡ 3 → ⊥
  pub input : result ≡ 5 → ⊥
  pub out : result ≡ 6 → ⊥
  pub trace : result ≡ 7 → ⊥
  pub keep : result ≡ 8 → ⊥
  pub memory : result ≡ 9 → ⊥

calm-at : (result status : ℕ) → result ≡ status → IsCalm status → IsCalm result
calm-at result status same calm = subst IsCalm (sym same) calm

calm-end : (result : ℕ) → IsEnd result → IsCalm result
calm-end result (inl is) = calm-at result 0 is (record { refused = λ e. omega (arith, e); input = λ e. omega (arith, e); out = λ e. omega (arith, e); trace = λ e. omega (arith, e); keep = λ e. omega (arith, e); memory = λ e. omega (arith, e) })
calm-end result (inr (inl is)) = calm-at result 1 is (record { refused = λ e. omega (arith, e); input = λ e. omega (arith, e); out = λ e. omega (arith, e); trace = λ e. omega (arith, e); keep = λ e. omega (arith, e); memory = λ e. omega (arith, e) })
calm-end result (inr (inr (inl is))) =
    calm-at result 10 is (record { refused = λ e. omega (arith, e); input = λ e. omega (arith, e); out = λ e. omega (arith, e); trace = λ e. omega (arith, e); keep = λ e. omega (arith, e); memory = λ e. omega (arith, e) })
calm-end result (inr (inr (inr is))) =
    calm-at result 11 is (record { refused = λ e. omega (arith, e); input = λ e. omega (arith, e); out = λ e. omega (arith, e); trace = λ e. omega (arith, e); keep = λ e. omega (arith, e); memory = λ e. omega (arith, e) })

-- a run that came to its end
pub record CameToEnd (save : Option (List ℕ)) (steps : ℕ) (start : State) (around : Around) (old new : Beside) (result : Ending) : Type 0 where
  pub last : State
  pub how : How
  pub fewer : result.steps ≤ steps
  pub ends : exec steps start ≡ Ended how last (steps - result.steps)
  pub at : last.around ≡ around
  pub out : Grows old.outside.out new.outside.out (log said_of result.steps start)
  pub kept : KeptAt save how last old.keep new.keep
  pub trace : Grows old.trace new.trace (log line_of result.steps start ++ end_line (end_of (isa_of last.active) how))
  pub status : result.status ≡ status_of how

closed : (old new : Output) (bytes line : List ℕ) (status result : ℕ) → IsCalm result → Closes old new bytes line status result → Grows old new (bytes ++ line) × (result ≡ status)
closed old new bytes line status result calm (inl done) = done
closed old new bytes line status result calm (inr failed) = absurd (calm.trace failed.1)

not-broken : (broken : Broken) (result : ℕ) → IsCalm result → result ≡ broken_status broken → ⊥
not-broken Input result calm failed = calm.input failed
not-broken BrokenOutput result calm failed = calm.out failed
not-broken Trace result calm failed = calm.trace failed

came-to-end : (save : Option (List ℕ)) (steps : ℕ) (start : State) (around : Around) (old new : Beside) (result : Ending) → IsCalm result.status → RunWay save steps start around old new result
    → CameToEnd save steps start around old new result
came-to-end save steps start around old new result calm (ended last how fewer ends at out kept closes) =
    let done = closed old.trace new.trace (log line_of result.steps start) (end_line (end_of (isa_of last.active) how)) (status_of how) result.status calm closes in
    record { last = last; how = how; fewer = fewer; ends = ends; at = at; out = out; kept = kept; trace = done.0; status = done.1 }
came-to-end save steps start around old new result calm (keep_failed name bytes last is few ran at spells kept failed) = absurd (calm.keep failed)
came-to-end save steps start around old new result calm (broke stop broken last is few stops at kept failed) = absurd (not-broken broken result.status calm failed)

-- one that came to its limit
exit-status : (b : Bool) (status : ℕ) → status ≡ (if b then 0 else 1) → status ≡ 11 → ⊥
exit-status true status is same = omega (arith, is, same)
exit-status false status is same = omega (arith, is, same)

is-limit : (how : How) (status : ℕ) → status ≡ 11 → status ≡ status_of how → how ≡ Limited
is-limit Limited status eleven same = refl
is-limit (Exited code) status eleven same = absurd (exit-status (code == 0) status same eleven)
is-limit (Faulted fault) status eleven same = absurd (omega (arith, same, eleven))

-- what was kept under a name that had nothing is the bytes
share-own : (b : Bool) (bytes : List ℕ) → b ≡ true → (if b then bytes else []) ≡ bytes
share-own true bytes is = refl
share-own false bytes is = cc

kept-is : (old new : Option (List ℕ → List ℕ)) (name bytes image : List ℕ) → KeepsMore old new name bytes → IsSomeAnd old (λ kept. kept name ≡ []) → IsSomeAnd new (λ kept. kept name ≡ image) → bytes ≡ image
kept-is None new name bytes image more unused is = absurd unused
kept-is (Some held) None name bytes image more unused is = absurd is
kept-is (Some held) (Some kept) name bytes image more unused is =
    let own : bytes_eq name name ≡ true = (bytes_eq-Decides name name).1 refl in
    let all : kept name ≡ [] ++ bytes = more name ∙ ap (λ xs. xs ++ (if bytes_eq name name then bytes else [])) unused ∙ ap (λ xs. [] ++ xs) (share-own (bytes_eq name name) bytes own) in
    sym all ∙ is

limit-kept : (name : List ℕ) (how : How) (last : State) (old new : Keep) → how ≡ Limited → KeptAt (Some name) how last old new → KeptAt (Some name) Limited last old new
limit-kept name how last old new is kept = subst (λ h. KeptAt (Some name) h last old new) is kept

-- the bytes of both runs
joins : (pick : Next → List ℕ) (n m first second : ℕ) (s t u : State) → first ≡ n → exec n s ≡ Ended Limited t 0 → t ≡ u → log pick (first + second) s ≡ log pick n s ++ log pick second u
joins pick n m first second s t u all leads same =
    ap (λ k. log pick (k + second) s) all ∙ log-continues pick 0 n second s t leads ∙ ap (λ v. log pick n s ++ log pick second v) same

both-grow : (a b c d : Output) (bytes front back line last_line : List ℕ) → bytes ≡ front ++ back → Grows a b (front ++ line) → Grows c d (back ++ last_line) → TookBoth bytes line last_line a b c d
both-grow a b c d bytes front back line last_line order first second = record { front = front; back = back; order = order; first = first; second = second }

nothing-more : (a b : Output) (bytes : List ℕ) → Grows a b bytes → Grows a b (bytes ++ [])
nothing-more a b bytes grows = subst (Grows a b) (sym (append-nil bytes)) grows

-- the steps that are left of both runs
both-left : (n m first second : ℕ) → first ≡ n → second ≤ m → m - second ≡ n + m - (first + second)
both-left n m first second all fewer = omega (arith, all, fewer)

-- a run that came to its limit and was kept, and the run of what was kept
joined : (name image : List ℕ) (save : Option (List ℕ)) (n m : ℕ) (machine : Machine) (a b c d : Beside) (start result : Ending) (s t : State) (between_runs after : Around)
    → start.status ≡ 11 → CameToEnd (Some name) n s between_runs a b start → IsBetween name image a b c → HasSpelling machine → spell machine ≡ image → t ≡ flat machine.body machine.active between_runs
    → CameToEnd save m t after c d result → AreOneRun (n + m) (start.steps + result.steps) s after a b c d result.status
joined name image save n m machine a b c d start result s t between_runs after eleven first between is spelled same second =
    let limit : first.how ≡ Limited = is-limit first.how start.status eleven first.status in
    let stops : exec n s ≡ Ended Limited first.last (n - start.steps) = subst (λ h. exec n s ≡ Ended h first.last (n - start.steps)) limit first.ends in
    let none : n - start.steps ≡ 0 = limits-last 0 n (n - start.steps) s first.last stops in
    let leads : exec n s ≡ Ended Limited first.last 0 = subst (λ k. exec n s ≡ Ended Limited first.last k) none stops in
    let all : start.steps ≡ n = omega (arith, none, first.fewer) in
    let kept : KeptAt (Some name) Limited first.last a.keep b.keep = limit-kept name first.how first.last a.keep b.keep limit first.kept in
    let bytes : kept.0 ≡ image = kept-is a.keep.kept b.keep.kept name kept.0 image kept.2.kept between.unused between.kept in
    let one : kept.1.machine ≡ machine = spellings_differ kept.1.machine machine kept.1.is is (kept.1.spelled ∙ bytes ∙ sym spelled) in
    let mid : first.last ≡ t =
    sym kept.1.stands ∙ ap (λ around. flat kept.1.machine.body kept.1.machine.active around) first.at ∙ ap (λ k. flat k.body k.active between_runs) one ∙ sym same in
    let rest : exec m t ≡ Ended second.how second.last (n + m - (start.steps + result.steps)) =
    subst (λ k. exec m t ≡ Ended second.how second.last k) (both-left n m start.steps result.steps all second.fewer) second.ends in
    record {
      last = second.last;
      how = second.how;
      fewer = omega (arith, all, second.fewer);
      ends = exec-continues 0 n m s first.last leads ∙ ap (exec m) mid ∙ rest;
      around = second.at;
      out = both-grow a.outside.out b.outside.out c.outside.out d.outside.out (log said_of (start.steps + result.steps) s) (log said_of n s) (log said_of result.steps t) [] []
          (joins said_of n m start.steps result.steps s first.last t all leads mid)
          (nothing-more a.outside.out b.outside.out (log said_of n s) (subst (λ k. Grows a.outside.out b.outside.out (log said_of k s)) all first.out))
          (nothing-more c.outside.out d.outside.out (log said_of result.steps t) second.out);
      trace = both-grow a.trace b.trace c.trace d.trace (log line_of (start.steps + result.steps) s) (log line_of n s) (log line_of result.steps t)
          (end_line Limit) (end_line (end_of (isa_of second.last.active) second.how)) (joins line_of n m start.steps result.steps s first.last t all leads mid)
          (subst (λ h. Grows a.trace b.trace (log line_of n s ++ end_line (end_of (isa_of first.last.active) h))) limit
          (subst (λ k. Grows a.trace b.trace (log line_of k s ++ end_line (end_of (isa_of first.last.active) first.how))) all first.trace))
          second.trace;
      status = second.status;
    }

pub continued-one : ContinuedRunsAreOne
continued-one name image save start n m a b c d first result ran eleven between (no_memory early) end =
    let calm : IsCalm result.status = calm-end result.status end in absurd (calm.memory (closed c.trace d.trace [] _ 9 result.status calm early.trace).1)
continued-one name image save start n m a b c d first result ran eleven between (image_refused error why why_is is early) end =
    let calm : IsCalm result.status = calm-end result.status end in absurd (calm.refused (closed c.trace d.trace [] _ 3 result.status calm early.trace).1)
continued-one name image save start n m a b c d first result ran eleven between (continued machine is spelled again) end =
    record {
      taken = ran.taken ++ again.taken;
      told = told-both ran.taken again.taken a.outside.input.left b.outside.input.left d.outside.input.left ran.told (subst (λ o. ToldAll again.taken o d.outside.input.left) between.input again.told);
      each = λ before after rest took.
          let parts = took-append ran.taken again.taken before after took in
          let later : List (Option ℕ) = answers_given c d ++ rest in
          joined name image save n m machine a b c d first result (start (around_at a.outside before (answers_given a b ++ later))) (flat machine.body machine.active (around_at c.outside parts.0 later))
          (around_at b.outside parts.0 later) (around_at d.outside after rest) eleven
          (came-to-end (Some name) n _ _ a b first (calm-end first.status (inr (inr (inr eleven)))) (ran.each before parts.0 later parts.1)) between is spelled
          (ap (λ rack. flat machine.body machine.active (record { input = parts.0; slots = map is_some rack.slots; asks = rack.journal; answers = later })) between.rack)
          (came-to-end save m _ _ c d result (calm-end result.status end) (again.each parts.0 after rest parts.2));
    }
