-- What a return leaves.
use Rattle.std.specs.Prelude.{◌≡◌, ℕ, Result, Ok, Err}
use Rattle.big_memory.specs.declared.refusals.Access.{Access}
use Rattle.big_memory.specs.Memory.{Memory}
use Rattle.big_memory.specs.StoresClauses.{OnlyFree}
use Rattle.switch_frame.specs.declared.active.Active.{Active}
use Rattle.switch_frame.specs.Records.{isa_of}
use Rattle.mode_switch.specs.Returned.{Given, Returned}

-- what is given is left, in the same set, with memory changed only where it may be stored into; or all is left as it was
abbrev pub Puts : {T : Type 0} → Result Given Access → Result T Access → Memory → Memory → Active → Active → Type 0
Puts given (Ok done) old new before after =
    (given ≡ Ok (record { file = after; memory = new })) × OnlyFree old new × (isa_of after ≡ isa_of before)
Puts given (Err e) old new before after = (given ≡ Err e) × (new ≡ old) × (after ≡ before)

-- the same for a call that answers the result
abbrev pub GivesBack : Result Returned Access → Result ℕ Access → Memory → Memory → Active → Active → Type 0
GivesBack all (Ok v) old new before after =
    (all ≡ Ok (record { value = v; file = after; memory = new })) × OnlyFree old new × (isa_of after ≡ isa_of before)
GivesBack all (Err e) old new before after = (all ≡ Err e) × (new ≡ old) × (after ≡ before)
