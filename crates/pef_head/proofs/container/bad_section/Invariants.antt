use Rattle.std.proofs.Common.{◌≡◌, None}
use Rattle.pef_head.specs.Container.{is_bad_section}
use Rattle.mix_bits.specs.Search.{least}
use Rattle.pef_head.proofs.container.bad_section.Given as goal

abbrev pub invariant-loop-k : goal.invariant-loop-k
invariant-loop-k l = least (is_bad_section l.bytes) l.k ≡ None
