use Rattle.std.proofs.Common.{◌≡◌, length, drop, None}
use Rattle.big_memory.specs.StoresWhole.{longs_refusal, with_longs}
use Rattle.big_memory.proofs.ram.Ram.put_longs.Given as goal

abbrev pub invariant-loop-value : goal.invariant-loop-value
invariant-loop-value l = record {
  all : with_longs l.a l.values l.initial.self ≡ with_longs l.at (drop l.value-index l.values) l.self;
  none : longs_refusal l.self l.at (length (drop l.value-index l.values)) ≡ None;
}
