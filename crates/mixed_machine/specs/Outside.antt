-- A machine in memory beside the outside: what the outside tells, and how a claim on states is one on machines.
use Rattle.std.specs.Prelude.{◌≡◌, ℕ, List, [], ◌∷◌, ◌++◌, Option}
use Rattle.toolbox.specs.Calls.{IsLeft, Outside, Taken, Took, answers_since}
use Rattle.toolbox.specs.Calls.{around_at}
use Rattle.toolbox.specs.Effects.{Around}

-- the bytes of an input before and after several calls that took from it
abbrev pub TookAll : List Taken → List ℕ → List ℕ → Type 0
TookAll [] before after = before ≡ after
TookAll (taken ∷ more) before after = (mid : List ℕ) × Took taken before mid × TookAll more mid after

-- what was taken fits what the input tells before and after: whatever is left after, as far as it tells, some bytes
-- fit that were left before, as it told them
abbrev pub ToldAll : List Taken → Option (List ℕ) → Option (List ℕ) → Type 0
ToldAll taken old new = (after : List ℕ) → IsLeft new after → (before : List ℕ) × IsLeft old before × TookAll taken before after

-- A claim on what stands there before and after, in each outside that can have been: for every input that fits what was
-- taken from it, and whatever the devices answer later. At least one input fits, and it is the told one where bytes are
-- told. The answers before are those of the journal's new entries, and then those to come: so none that was given is left
-- over, and none is missing.
pub record Between {S T : Type 0} (P : S → T → Type 0) (from : Around → S) (to : Around → T) (old new : Outside) : Type 0 where
  pub taken : List Taken
  pub told : ToldAll taken old.input.left new.input.left
  pub each : (before after : List ℕ) (rest : List (Option ℕ)) → TookAll taken before after
      → P (from (around_at old before (answers_since old.rack new.rack ++ rest))) (to (around_at new after rest))
