-- The function that a trap word reaches.
use Rattle.std.specs.Prelude.{ℕ, ◌≡◌, Option, Some, None}
use Rattle.toolbox.specs.declared.function.Function.{Function}
use Rattle.toolbox.specs.FunctionsClauses.{trap_of}

abbrev pub IsReached : ℕ → Option Function → Type 0
IsReached word None = (f : Function) → trap_of f ≡ Some word → ⊥
IsReached word (Some f) = trap_of f ≡ Some word
