-- A reading, or want of memory.
use Rattle.std.specs.Prelude.{◌≡◌, ◌≢◌, Result, Ok, Err}
use Rattle.rsrc_fork.specs.declared.error.RsrcError.{RsrcError}
use Rattle.rsrc_fork.specs.declared.error.RsrcError.TheVariants.{NoMemory}

-- the answer is this reading, or that memory ran out: its value as `view` sees it, and its refusal
abbrev pub Gives : {A B : Type 0} → (A → B) → Result A RsrcError → Result B RsrcError → Type 0
Gives view (Ok x) reading = reading ≡ Ok (view x)
Gives view (Err e) reading = e ≢ NoMemory → reading ≡ Err e
