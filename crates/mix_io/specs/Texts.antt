-- What is printed of a refusal.
use Rattle.std.specs.Prelude.{ℕ, List, ◌++◌, codes, decimal}
use Rattle.mix_io.specs.declared.errors.FetchError.{FetchError}
use Rattle.mix_io.specs.declared.errors.FetchError.TheVariants.{NoMemory, Failed, TooLong}

abbrev pub fetch_error_text : FetchError → List ℕ
fetch_error_text NoMemory = codes "out of memory"
fetch_error_text Failed = codes "the shelf failed"
fetch_error_text (TooLong limit) = codes "more than " ++ decimal limit ++ codes " bytes"
