use Rattle.std.proofs.Common.{◌≡◌, ◌-◌}
use Rattle.big_memory.specs.StoresWhole.{longs_refusal}
use Rattle.big_memory.proofs.ram.Ram.probe_each.Given as goal

abbrev pub invariant-loop-k : goal.invariant-loop-k
invariant-loop-k l = longs_refusal l.self l.a l.count ≡ longs_refusal l.self l.at (l.count - l._k)
