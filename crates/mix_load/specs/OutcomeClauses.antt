-- An answer, or want of memory.
use Rattle.std.specs.Prelude.{◌≡◌, ◌≢◌, Result, Ok, Err}
use Rattle.mix_load.specs.declared.error.LoadError.{LoadError}
use Rattle.mix_load.specs.declared.error.LoadError.TheVariants.{NoMemory}

-- the answer is this one, or that memory ran out
abbrev pub Gives : {A : Type 0} → Result A LoadError → Result A LoadError → Type 0
Gives (Ok x) load = load ≡ Ok x
Gives (Err e) load = e ≢ NoMemory → load ≡ Err e
