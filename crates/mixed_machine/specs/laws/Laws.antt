-- Laws of runs, and of what calls take from the outside.
use Rattle.std.specs.Prelude.{◌≡◌, ◌≢◌, ℕ, ◌+◌, ◌≤◌, List, [], ◌++◌, Option}
use Rattle.mixed_machine.specs.declared.stop.Stop.{Stop}
use Rattle.mixed_machine.specs.declared.stop.Stop.TheVariants.{Limit}
use Rattle.mixed_machine.specs.State.{State}
use Rattle.mixed_machine.specs.Next.{Next}
use Rattle.mixed_machine.specs.Exec.{How, exec_to, Leads, log}
use Rattle.mixed_machine.specs.Exec.How.{Limited}
use Rattle.mixed_machine.specs.Exec.End.{Back, Ended}
use Rattle.mixed_machine.specs.OutsideClauses.{At}
use Rattle.mixed_machine.specs.Outside.{TookAll, ToldAll}
use Rattle.mixed_machine.specs.RunsClauses.{Runs}
use Rattle.dev_rack.specs.Accounts.{Accounts}
use Rattle.dev_rack.specs.Rack.{State as Rack}
use Rattle.toolbox.specs.Calls.{Taken, answers_since}

-- no steps lead only to where they began
abbrev pub NoStepsStay : Type 0
NoStepsStay = (d : ℕ) (s t : State) → Leads d 0 s t → s ≡ t

-- where n steps were done and no end was reached, a run of n + m steps is one of m steps from there
abbrev pub RunsContinue : Type 0
RunsContinue = (d n m : ℕ) (s t : State) → Leads d n s t → exec_to d (n + m) s ≡ exec_to d m t

-- a run that has ended has the same end where more steps are allowed, and these are left over
abbrev pub EndsStay : Type 0
EndsStay = (d n m left : ℕ) (how : How) (s t : State) → how ≢ Limited → exec_to d n s ≡ Ended how t left → exec_to d (n + m) s ≡ Ended how t (left + m)

abbrev pub BacksStay : Type 0
BacksStay = (d n m left : ℕ) (s t : State) → exec_to d n s ≡ Back t left → exec_to d (n + m) s ≡ Back t (left + m)

-- a run at the step limit has no step left
abbrev pub LimitsAreLast : Type 0
LimitsAreLast = (d n left : ℕ) (s t : State) → exec_to d n s ≡ Ended Limited t left → left ≡ 0

-- a run down to fewer callers is one down to more callers, and goes on where that one came back
abbrev pub BacksContinue : Type 0
BacksContinue = (e d n left : ℕ) (s t : State) → e ≤ d → exec_to d n s ≡ Back t left → exec_to e n s ≡ exec_to e left t

abbrev pub EndsReach : Type 0
EndsReach = (e d n left : ℕ) (how : How) (s t : State) → e ≤ d → exec_to d n s ≡ Ended how t left → exec_to e n s ≡ Ended how t left

-- a run down to no caller never comes back
abbrev pub NeverBack : Type 0
NeverBack = (n left : ℕ) (s t : State) → exec_to 0 n s ≢ Back t left

-- a run that was cut at its step limit and continued is the uncut run, with its output, its trace, what it took from
-- the input, and the answers of the devices in both
abbrev pub CutsContinue : Type 0
CutsContinue =
    (n m : ℕ) (a b c : At) (stop : Stop) → Accounts a.outside.rack b.outside.rack → Accounts b.outside.rack c.outside.rack
    → Runs n a b Limit → Runs m b c stop → Runs (n + m) a c stop

-- what a run puts is what its first steps put, and then the others
abbrev pub LogsContinue : Type 0
LogsContinue = (pick : Next → List ℕ) (d n m : ℕ) (s t : State) → Leads d n s t → log pick (n + m) s ≡ log pick n s ++ log pick m t

-- what was taken by calls, and by more of them
abbrev pub TookSplits : Type 0
TookSplits =
    (xs ys : List Taken) (before after : List ℕ) → TookAll (xs ++ ys) before after → (mid : List ℕ) × TookAll xs before mid × TookAll ys mid after

abbrev pub ToldJoins : Type 0
ToldJoins = (xs ys : List Taken) (a b c : Option (List ℕ)) → ToldAll xs a b → ToldAll ys b c → ToldAll (xs ++ ys) a c

abbrev pub ToldNothing : Type 0
ToldNothing = (a : Option (List ℕ)) → ToldAll [] a a

-- the answers of a journal's new entries
abbrev pub NoAnswers : Type 0
NoAnswers = (a : Rack) → answers_since a a ≡ []

abbrev pub AnswersJoin : Type 0
AnswersJoin =
    (a b c : Rack) (rest : List (Option ℕ)) → Accounts a b → Accounts b c → answers_since a b ++ (answers_since b c ++ rest) ≡ answers_since a c ++ rest
