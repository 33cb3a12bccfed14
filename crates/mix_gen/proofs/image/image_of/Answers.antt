-- The parts, put one after the other, are the image.
use Rattle.std.proofs.Common.{◌∙◌, ap}
use Rattle.byteorder.specs.Endian.{big_bytes}
use Rattle.big_memory.specs.Lists.{put}
use Rattle.big_memory.specs.Numbers.{bytes_of_longs}
use Rattle.mix_gen.specs.Sample.{sample_image}
use Rattle.mix_gen.specs.declared.image.TheConstants.{DESCRIPTOR, HALF_M68, HALF_PPC, VECTOR}
use Rattle.mix_gen.proofs.image.image_of.Goals as goal

pub returns : goal.returns
unfolding sample_image bytes_of_longs
returns c =
    c.put_part-5.ensures ∙ ap (put 0xA8 HALF_PPC) (c.put_part-4.ensures ∙ ap (put 0xA0 VECTOR) (c.put_part-3.ensures ∙ ap (put 0x80 DESCRIPTOR) (c.put_part-2.ensures
    ∙ ap (put 0x20 HALF_M68) (c.put_long-2.ensures ∙ ap (put 0x0A (big_bytes 4 c.args.depth)) (c.put_long.ensures ∙ ap (put 0x02 (big_bytes 4 c.args.n)) c.put_part.ensures)))))
