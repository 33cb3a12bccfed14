-- How packed bytes are measured.
use Rattle.std.specs.Prelude.{◌≡◌, ℕ, ◌^◌, ◌≤◌, List, length, Result, Ok, Err}
use Rattle.binhex.specs.declared.error.BinHexError.{BinHexError}
use Rattle.binhex.specs.Runs.{expanded}
use Rattle.binhex.specs.inner.Spread.{whole}

-- packed bytes stand for so many
pub record Counts (packed : List ℕ) (count : ℕ) : Type 0 where
  pub stands : expanded packed ≡ Ok (whole packed)
  pub long : count ≡ length (whole packed)
  pub few : count ≤ 2 ^ 25

abbrev pub Measures : List ℕ → Result ℕ BinHexError → Type 0
Measures packed (Ok count) = Counts packed count
Measures packed (Err error) = expanded packed ≡ Err error
