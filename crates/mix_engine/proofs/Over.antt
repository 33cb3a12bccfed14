-- Claims on the states that a machine stands for, by a step that takes nothing from the input or one thing.
use Rattle.std.proofs.Common.{◌≡◌, ℕ, List, [], ◌∷◌, ◌++◌, Option, Some, None, refl, sym, ap, ◌∙◌, subst}
use Rattle.std.specs.Io.KnownBytes.{Keeps}
use Rattle.toolbox.specs.Calls.{Taken, Took, answers_since}
use Rattle.toolbox.specs.CallsClauses.{Told}
use Rattle.toolbox.specs.Calls.Taken.{Nothing, Byte, TheEnd}
use Rattle.mixed_machine.specs.State.{State}
use Rattle.mixed_machine.proofs.Over.{since-none}
use Rattle.mixed_machine.specs.OutsideClauses.{At, Over}
use Rattle.mixed_machine.specs.Outside.{ToldAll}
use Rattle.mixed_machine.specs.inner.Outside.{answers_between, state_of}

pub told-kept : (x y : Option (List ℕ)) → Keeps x y → ToldAll [] x y
told-kept None y kept after is = (after, tt, refl)
told-kept (Some xs) None kept after is = absurd kept
told-kept (Some xs) (Some ys) kept after is = (after, is ∙ kept, refl)

told-one : (t : Taken) (x y : Option (List ℕ)) → Told t x y → ToldAll (t ∷ []) x y
told-one t x y told after is = let one = told after is in (one.0, one.1, (after, one.2, refl))

-- nothing is taken, and no device is asked
pub over-quiet : (P : State → State → Type 0) (a b : At) → a.outside.rack ≡ b.outside.rack → ToldAll [] a.outside.input.left b.outside.input.left
    → ((input : List ℕ) (answers : List (Option ℕ)) → P (state_of a input answers) (state_of b input answers)) → Over P a b
over-quiet P a b rack told same =
    let none : answers_between a b ≡ [] = ap (λ r. answers_since r b.outside.rack) rack ∙ since-none b.outside.rack in
    record {
      taken = [];
      told = told;
      each = λ before after rest took.
          subst (λ input. P (state_of a input (answers_between a b ++ rest)) (state_of b after rest)) (sym took)
          (subst (λ xs. P (state_of a after (xs ++ rest)) (state_of b after rest)) (sym none) (same after rest));
    }

-- something is taken
pub over-taken : (P : State → State → Type 0) (a b : At) (t : Taken) → Told t a.outside.input.left b.outside.input.left
    → ((before after : List ℕ) (rest : List (Option ℕ)) → Took t before after → P (state_of a before (answers_between a b ++ rest)) (state_of b after rest)) → Over P a b
over-taken P a b t told same =
    record {
      taken = t ∷ [];
      told = told-one t a.outside.input.left b.outside.input.left told;
      each = λ before after rest took. same before after rest (subst (Took t before) took.2 took.1);
    }

-- what was taken could be taken from some input
pub some-took : (t : Taken) → (before after : List ℕ) × Took t before after
some-took Nothing = ([], [], refl)
some-took (Byte byte) = (byte ∷ [], [], refl)
some-took TheEnd = ([], [], (refl, refl))
