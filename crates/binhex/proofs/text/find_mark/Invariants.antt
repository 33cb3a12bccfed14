-- None so far.
use Rattle.std.proofs.Common.{◌≡◌, None}
use Rattle.mix_bits.specs.Search.{least}
use Rattle.binhex.specs.Text.{is_marked}
use Rattle.binhex.proofs.text.find_mark.Given as goal

abbrev pub invariant-loop-k : goal.invariant-loop-k
invariant-loop-k l = least (is_marked l.bytes) l.k ≡ None
