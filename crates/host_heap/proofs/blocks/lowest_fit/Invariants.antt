use Rattle.host_heap.proofs.Walk.{Walked}
use Rattle.host_heap.proofs.blocks.lowest_fit.Given as goal

abbrev pub invariant-loop-block : goal.invariant-loop-block
invariant-loop-block l = Walked (record { low = l.low; high = l.high; blocks = l.blocks }) l.size l.block-index l.address
