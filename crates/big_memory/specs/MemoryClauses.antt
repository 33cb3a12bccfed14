-- How a call on memory answers: done, or refused for a reason with nothing changed.
use Rattle.std.specs.Prelude.{◌≡◌, ℕ, Bool, List, Option, Result, Ok, Err, MatchOption}
use Rattle.big_memory.specs.declared.refusals.Access.{Access}
use Rattle.big_memory.specs.Lists.{put}
use Rattle.big_memory.specs.Memory.{Memory, refusal}

abbrev pub with_marks : ℕ → List Bool → Memory → Memory
with_marks unit ys m = record m { marks = put unit ys m.marks }

-- a call that is done, or refused for a reason with nothing changed
abbrev pub IsDoneUnless : {T : Type 0} → Option Access → Memory → Memory → Memory → Result T Access → T → Type 0
IsDoneUnless reason old done new result ok =
    MatchOption reason ((result ≡ Ok ok) × (new ≡ done)) (λ e. (result ≡ Err e) × (new ≡ old))

-- the same for a call that stores n bytes at a
abbrev pub IsDoneUnlessRefused : {T : Type 0} → Memory → ℕ → ℕ → Memory → Memory → Result T Access → T → Type 0
IsDoneUnlessRefused old a n done new result ok = IsDoneUnless (refusal old a n) old done new result ok
