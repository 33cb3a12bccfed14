use Rattle.std.proofs.Common.{◌≡◌, ◌-◌, ◌<◌, ◌≤◌, ℕ, false, get_or}
use Rattle.big_memory.specs.Marks.{marks_of}
use Rattle.big_memory.proofs.marks.any_marked.Given as goal

abbrev pub invariant-loop-unit : goal.invariant-loop-unit
invariant-loop-unit l = record {
  begun : l.from ≤ l.unit;
  clear : (k : ℕ) → l.from ≤ k → k < l.unit → get_or (marks_of l.guard) k false ≡ false;
}

abbrev pub decreases-loop-unit : goal.decreases-loop-unit
decreases-loop-unit l = l.to - l.unit
