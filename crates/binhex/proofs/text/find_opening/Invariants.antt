-- None so far.
use Rattle.std.proofs.Common.{◌≡◌, None}
use Rattle.mix_bits.specs.Search.{least}
use Rattle.binhex.specs.Text.{is_opening}
use Rattle.binhex.proofs.text.find_opening.Given as goal

abbrev pub invariant-loop-k : goal.invariant-loop-k
invariant-loop-k l = least (is_opening l.rest) l.k ≡ None
