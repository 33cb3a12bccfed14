-- The steps of a run, one by one.
use Rattle.std.specs.Prelude.{ℕ, Bool, if◌then◌else◌, List, Result, Ok, Err}
use Rattle.pef_reloc.specs.Additions.{Sources, State, Refused}
use Rattle.pef_reloc.specs.Program.{reading_at, each, read_and_run, fits_in, repeated}

-- a span that is repeated has no repeat of its own
abbrev pub run_in_span : Sources → List ℕ → ℕ → State → Result State Refused
run_in_span sources span place s = read_and_run sources (λ _ _ t. Ok t) (reading_at span place) s

abbrev pub fill_span : List ℕ → ℕ → Bool → Result Bool Bool
fill_span span place b = if fits_in span place then Ok b else Err b

abbrev pub run_at : Sources → List ℕ → ℕ → State → Result State Refused
run_at sources words place s = read_and_run sources (repeated sources words place) (reading_at words place) s

abbrev pub run_words : Sources → List ℕ → State → Result State Refused
run_words sources words s = each words (run_at sources words) 0 s
