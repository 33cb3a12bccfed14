-- No section so far is refused.
use Rattle.std.proofs.Common.{◌≡◌, None}
use Rattle.mix_bits.specs.Search.{least}
use Rattle.look_words.specs.inner.Unmade.{is_badly_packed}
use Rattle.look_words.proofs.unmade.badly_packed.Given as goal

abbrev pub invariant-loop-k : goal.invariant-loop-k
invariant-loop-k l = least (is_badly_packed l.pef) l.k ≡ None
