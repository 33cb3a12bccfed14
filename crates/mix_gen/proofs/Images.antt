-- The sample image, part by part.
use Rattle.std.proofs.Common.{refl}
use Rattle.big_memory.specs.Numbers.{bytes_of_longs}
use Rattle.mix_gen.specs.laws.SampleLaws.{HasSampleBytes}
use Rattle.mix_gen.specs.Sample.{sample_image}

pub length-sample : HasSampleBytes
unfolding sample_image bytes_of_longs
length-sample n depth = refl
