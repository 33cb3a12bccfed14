-- What is known between two packed bytes.
use Rattle.std.specs.Prelude.{◌≡◌, ℕ, ◌+◌, ◌-◌, ◌<◌, ◌==◌, ◌&&◌, ◌++◌, not, nat_lt, if◌then◌else◌, Bool, List, drop, length, Option, Some, None, Result, Ok, Err}
use Rattle.std.specs.List.{slice_get}
use Rattle.binhex.specs.declared.error.BinHexError.{BinHexError}
use Rattle.binhex.specs.declared.error.BinHexError.TheVariants.{Run as WrongRun, Long}
use Rattle.binhex.specs.declared.runs.Run.{Run}
use Rattle.binhex.specs.Runs.{Expanding, most, taken_below}
use Rattle.binhex.specs.inner.Spread.{run_behind, spread, whole}

-- bytes so far that end with a run, so many in all
pub record IsAt (so : Expanding) (run : Run) (count : ℕ) : Type 0 where
  pub long : length so.bytes ≡ count
  pub marks : so.marked ≡ run.is_marked
  pub last : 0 < count → slice_get so.bytes (length so.bytes - 1) ≡ Some run.byte

-- the same of the first packed bytes, so many; the others stand for the rest of the whole
pub record Reaches (packed : List ℕ) (k : ℕ) (run : Run) (count : ℕ) : Type 0 where
  pub so : Expanding
  pub before : taken_below packed k ≡ Ok so
  pub rest : whole packed ≡ so.bytes ++ spread run (drop k packed)
  pub at : IsAt so run count

-- whether a packed byte is the length of a run of no byte
abbrev pub lacks_first : Run → ℕ → ℕ → Bool
lacks_first run count packed = run.is_marked && not (packed == 0) && (count == 0)

-- the number of bytes with those for which the next packed one stands
abbrev pub count_with : Run → ℕ → ℕ → ℕ
count_with run count packed = count + (run_behind run packed).count

abbrev pub refusal_with : Run → ℕ → ℕ → Option BinHexError
refusal_with run count packed =
    if lacks_first run count packed then Some WrongRun
    else (if nat_lt most (count_with run count packed) then Some Long else None)

abbrev pub Takes : Run → ℕ → ℕ → Result ℕ BinHexError → Type 0
Takes run count packed (Ok more) = (refusal_with run count packed ≡ None) × (more ≡ count_with run count packed)
Takes run count packed (Err error) = refusal_with run count packed ≡ Some error
