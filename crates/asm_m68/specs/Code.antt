-- The words of an instruction in an array: those in front, with zeros behind them.
use Rattle.std.specs.Prelude.{ℕ, ◌≡◌, ◌≤◌, List, take, slice_index}
use Rattle.asm_m68.specs.declared.code.Code68.{Code68}

abbrev pub kept : Code68 → List ℕ
kept code = take code.count code.words

-- zeros follow
pub record IsPadded (code : Code68) : Type 0 where
  pub zeros : (k : ℕ) → code.count ≤ k → slice_index code.words k ≡ 0
