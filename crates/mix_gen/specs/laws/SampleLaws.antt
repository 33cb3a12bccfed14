-- Laws of the sample image: how long it is.
use Rattle.std.specs.Prelude.{◌≡◌, ℕ, length}
use Rattle.mix_gen.specs.Sample.{sample_bytes, sample_image}

-- whatever is asked for, the image has so many bytes
abbrev pub HasSampleBytes : Type 0
HasSampleBytes = (n depth : ℕ) → length (sample_image n depth) ≡ sample_bytes
