use Rattle.ppc_core.proofs.Order.{Stored}
use Rattle.ppc_core.proofs.strings.store_bytes.Given as goal

abbrev pub invariant-loop-k : goal.invariant-loop-k
invariant-loop-k l = Stored l.fn.ram l.at l.first l.gpr l.k l.ram
