-- A result that is put, or a refusal with nothing changed.
use Rattle.std.specs.Prelude.{◌≡◌, Result, Ok, Err}
use Rattle.big_memory.specs.declared.refusals.Access.{Access}
use Rattle.args_m68.specs.Values.{Given}

-- what is given is left; else the call answers the refusal, and nothing is changed
abbrev pub Leaves : {T : Type 0} → Result T Access → Given → Given → Result Given Access → Type 0
Leaves (Ok done) old new given = given ≡ Ok new
Leaves (Err e) old new given = (given ≡ Err e) × (new ≡ old)
