-- What the tests of an image's fields answer.
use Rattle.std.specs.Prelude.{ℕ, ◌+◌, ◌*◌, List, Result, Ok, Err}
use Rattle.mix_bits.specs.Results.{◌>>=◌}
use Rattle.host_heap.specs.laws.Place.{may_follow}
use Rattle.mix_image.specs.declared.error.ImageError.{ImageError}
use Rattle.mix_image.specs.declared.error.ImageError.TheVariants.{Block as Blocks}
use Rattle.mix_image.specs.Fields.{long_from, only_if}

-- that there is a value, or why there is none
abbrev pub outcome : {A : Type 0} → Result A ImageError → Result (Unit {0}) ImageError
outcome (Ok x) = Ok (record {})
outcome (Err e) = Err e

-- where the next block ends, which is to stand behind `end` and to end by `high`
abbrev pub end_from : List ℕ → ℕ → ℕ → ℕ → Result ℕ ImageError
end_from bytes end high k =
    long_from bytes (36 + 8 * k) >>= λ address.
    long_from bytes (40 + 8 * k) >>= λ size.
    only_if (may_follow end high size address) (Blocks k) (address + size)
