use Rattle.switch_frame.specs.Chain.{Links, records}
use Rattle.call_tests.proofs.frames.reads.Given as goal

abbrev pub invariant-loop-held : goal.invariant-loop-held
invariant-loop-held g l = Links l.ram l.lo (records l.ram.bytes l.lo)
