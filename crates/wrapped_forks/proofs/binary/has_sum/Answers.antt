-- The bytes before the check sum are 124.
use Rattle.std.proofs.Common.{arith}
use Rattle.wrapped_forks.proofs.Fronts.{front_long}
use Rattle.wrapped_forks.proofs.binary.has_sum.Goals as goal

pub slice_bounds-summed-end : goal.slice_bounds-summed-end
slice_bounds-summed-end c = front_long 124 c.args.bytes.now (omega arith)
