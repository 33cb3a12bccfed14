-- What the 68K assembler answers, seen as a list of words or a refusal (this project's own).
use Rattle.std.specs.Prelude.{ℕ, ◌≤◌, List, Result, Ok, Err}
use Rattle.asm_m68.specs.declared.assembler.AsmError.{AsmError}
use Rattle.asm_m68.specs.declared.code.Code68.{Code68}
use Rattle.asm_m68.specs.Code.{kept}

-- they are in the array
abbrev pub IsFew : Code68 → Type 0
IsFew code = code.count ≤ 5

abbrev pub answer : Result Code68 AsmError → Result (List ℕ) AsmError
answer (Ok code) = Ok (kept code)
answer (Err e) = Err e
