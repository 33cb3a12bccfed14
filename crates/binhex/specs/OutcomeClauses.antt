-- How the answer of a call shows a reading, or want of memory.
use Rattle.std.specs.Prelude.{◌≡◌, ◌≢◌, Result, Ok, Err}
use Rattle.binhex.specs.declared.error.BinHexError.{BinHexError}
use Rattle.binhex.specs.declared.error.BinHexError.TheVariants.{NoMemory}

-- the answer is this reading
abbrev pub Says : {A B : Type 0} → (A → B) → Result A BinHexError → Result B BinHexError → Type 0
Says view (Ok x) reading = reading ≡ Ok (view x)
Says view (Err e) reading = reading ≡ Err e

-- the same, or that memory ran out
abbrev pub Gives : {A B : Type 0} → (A → B) → Result A BinHexError → Result B BinHexError → Type 0
Gives view (Ok x) reading = reading ≡ Ok (view x)
Gives view (Err e) reading = e ≢ NoMemory → reading ≡ Err e
