use Rattle.std.proofs.Common.{◌≡◌, None}
use Rattle.pef_head.specs.inner.Container.{is_loader}
use Rattle.mix_bits.specs.Search.{least}
use Rattle.pef_head.proofs.container.loader_section.Given as goal

abbrev pub invariant-loop-k : goal.invariant-loop-k
invariant-loop-k l = least (is_loader l.bytes) l.k ≡ None
