use Rattle.ppc_core.specs.inner.Tested.{BytesOpen}
use Rattle.ppc_core.proofs.strings.test_open.Given as goal

abbrev pub invariant-loop-k : goal.invariant-loop-k
invariant-loop-k l = BytesOpen l.ram l.at l.k
