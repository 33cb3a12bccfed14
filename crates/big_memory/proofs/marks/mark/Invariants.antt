use Rattle.std.proofs.Common.{◌≡◌, ◌-◌, ◌≤◌, replicate}
use Rattle.big_memory.specs.Lists.{put}
use Rattle.big_memory.specs.Marks.{marks_of}
use Rattle.big_memory.proofs.marks.mark.Given as goal

abbrev pub invariant-loop-unit : goal.invariant-loop-unit
invariant-loop-unit l = record {
  begun : l.from ≤ l.unit;
  before : l.unit ≤ l.to;
  marks : marks_of l.guard ≡ put l.from (replicate (l.unit - l.from) l.on) (marks_of l.initial.guard);
}

abbrev pub decreases-loop-unit : goal.decreases-loop-unit
decreases-loop-unit l = l.to - l.unit
