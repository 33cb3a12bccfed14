use Rattle.ppc_core.specs.inner.Tested.{WordsThere}
use Rattle.ppc_core.proofs.multiple.test_words.Given as goal

abbrev pub invariant-loop-k : goal.invariant-loop-k
invariant-loop-k l = WordsThere l.ram l.at l.k
