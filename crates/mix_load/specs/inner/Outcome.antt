-- A refusal, or want of memory.
use Rattle.std.specs.Prelude.{◌≡◌, ◌≢◌, Option, Some, None, Result, Ok, Err}
use Rattle.mix_load.specs.declared.error.LoadError.{LoadError}
use Rattle.mix_load.specs.declared.error.LoadError.TheVariants.{NoMemory}

-- the answer has this refusal, or says that memory ran out
abbrev pub Finds : {A : Type 0} → Result A LoadError → Option LoadError → Type 0
Finds (Ok x) refusal = refusal ≡ None
Finds (Err e) refusal = e ≢ NoMemory → refusal ≡ Some e
