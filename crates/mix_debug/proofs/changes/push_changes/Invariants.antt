use Rattle.std.proofs.Common.{◌≡◌, ◌+◌, ◌≤◌, take}
use Rattle.mix_debug.specs.inner.Entries.{started}
use Rattle.mix_debug.proofs.Scanning.{Counted, Pushed, opened, runs_at}
use Rattle.mix_debug.proofs.changes.push_changes.Given as goal

abbrev pub decreases-bytes : goal.decreases-bytes
decreases-bytes l = l.at

abbrev pub invariant-bytes : goal.invariant-bytes
invariant-bytes l = record {
  low : l.low ≤ l.at;
  high : l.at ≤ l.high;
  small : l.count + l.at ≤ l.high;
  span_room : l.spans.capacity ≡ l.initial.spans.capacity;
  old_room : l.olds.capacity ≡ l.initial.olds.capacity;
  pushed : Pushed l.at l.count (runs_at l.at (take l.high l.old) (take l.high l.new)) l.initial.spans.capacity l.spans.items l.initial.spans.items l.initial.olds.capacity l.olds.items l.initial.olds.items;
  counted : Counted l.at l.high (runs_at l.at (take l.high l.old) (take l.high l.new)) (l.changes.runs + started l.count) (l.changes.bytes + l.count) (opened l.count);
}
