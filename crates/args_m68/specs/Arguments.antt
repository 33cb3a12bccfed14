-- The arguments of a call, as a call that gathers them keeps them.
use Rattle.std.specs.Prelude.{ℕ, List, take, Result, Ok, Err}
use Rattle.args_m68.specs.declared.words.Words.{Words}

-- the values in kept words
abbrev pub words_of : Words → List ℕ
words_of w = take w.count w.value

-- the values that a call answers
abbrev pub answered : {E : Type 0} → Result Words E → Result (List ℕ) E
answered (Ok w) = Ok (words_of w)
answered (Err e) = Err e
