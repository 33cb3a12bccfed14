-- What a list is after parameters were put at its front.
use Rattle.std.specs.Prelude.{ℕ, ◌≡◌, ◌≤◌, ◌-◌, List, length, take, drop, replicate, Result, Ok, Err}
use Rattle.proc_info.specs.declared.bad_info.BadInfo.{BadInfo}
use Rattle.proc_info.specs.declared.param.Param.{Param}
use Rattle.proc_info.specs.inner.Nothing.{nothing}

-- the list begins with these parameters, `count` of at most `most`, and has nothing behind them
pub record Begins (most : ℕ) (list : List Param) (count : ℕ) (params : Result (List Param) BadInfo) : Type 0 where
  pub front : params ≡ Ok (take count list)
  pub few : count ≤ most
  pub rest : drop count list ≡ replicate (length list - count) nothing

-- the list where there are such parameters; else the call answers their refusal
abbrev pub Fills : ℕ → List Param → Result ℕ BadInfo → Result (List Param) BadInfo → Type 0
Fills most list (Ok count) params = Begins most list count params
Fills most list (Err e) params = params ≡ Err e
