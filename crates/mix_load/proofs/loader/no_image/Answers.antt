use Rattle.std.proofs.Common.{subst, sym}
use Rattle.big_memory.specs.Memory.{Memory}
use Rattle.mix_load.specs.inner.Loaded.{IsImage}
use Rattle.mix_load.proofs.Starts.{none_whole}
use Rattle.mix_load.proofs.loader.no_image.Goals as goal

pub returns-clause-whole : goal.returns-clause-whole
returns-clause-whole c =
    subst (λ (m : Memory). IsImage (record { ram = m; end = 65536; entry = 0; vector = 0; a5 = 0 })) (sym c.in_ok-ram.ensures.zeros) (none_whole c.args.len c.requires.least)
