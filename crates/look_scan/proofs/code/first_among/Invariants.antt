-- None so far.
use Rattle.std.proofs.Common.{◌≡◌, None}
use Rattle.mix_bits.specs.Search.{least}
use Rattle.look_scan.specs.Code.{is_lacking}
use Rattle.look_scan.proofs.code.first_among.Given as goal

abbrev pub invariant-loop-k : goal.invariant-loop-k
invariant-loop-k l = least (is_lacking l.code) l.k ≡ None
