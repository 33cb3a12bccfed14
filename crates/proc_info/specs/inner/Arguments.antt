-- Values that are appended, or refused.
use Rattle.std.specs.Prelude.{◌≡◌, ℕ, List, Result, Ok, Err}
use Rattle.proc_info.specs.laws.Arguments.{behind}

-- values are appended where there are some; else the call answers their refusal
abbrev pub Appends : {T E : Type 0} → Result T E → List ℕ → List ℕ → Result (List ℕ) E → Type 0
Appends (Ok done) old new values = behind old values ≡ Ok new
Appends (Err e) old new values = values ≡ Err e
