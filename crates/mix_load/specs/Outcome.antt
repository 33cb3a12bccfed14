-- How the answer of a call shows a load that may be refused.
use Rattle.std.specs.Prelude.{Option, Some, None, Result, Ok, Err}
use Rattle.mix_load.specs.declared.error.LoadError.{LoadError}

-- a value, unless there is a refusal
abbrev pub unless : {A : Type 0} → Option LoadError → A → Result A LoadError
unless None x = Ok x
unless (Some e) x = Err e
