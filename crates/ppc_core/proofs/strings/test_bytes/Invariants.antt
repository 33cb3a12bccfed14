use Rattle.ppc_core.specs.inner.Tested.{BytesThere}
use Rattle.ppc_core.proofs.strings.test_bytes.Given as goal

abbrev pub invariant-loop-k : goal.invariant-loop-k
invariant-loop-k l = BytesThere l.ram l.at l.k
