use Rattle.std.proofs.Common.{◌≡◌, None}
use Rattle.mix_bits.specs.Search.{least}
use Rattle.mix_load.specs.Segments.{is_bad_entry}
use Rattle.mix_load.proofs.table.bad_entry.Given as goal

abbrev pub invariant-loop-i : goal.invariant-loop-i
invariant-loop-i l = least (is_bad_entry l.fork l.code0) l.i ≡ None
