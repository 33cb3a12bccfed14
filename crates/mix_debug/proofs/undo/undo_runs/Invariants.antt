use Rattle.std.proofs.Common.{◌≡◌, take, drop, length}
use Rattle.mix_debug.specs.WrittenBack.{undone}
use Rattle.mix_debug.specs.inner.Entries.{count_of}
use Rattle.mix_debug.specs.Entries.{runs_of}
use Rattle.mix_debug.proofs.Undoing.{Undoing}
use Rattle.mix_debug.proofs.undo.undo_runs.Given as goal

abbrev pub decreases-runs : goal.decreases-runs
decreases-runs l = l.left

abbrev pub invariant-runs : goal.invariant-runs
invariant-runs l = record {
  undoing : Undoing l.left l.spans.items (drop l.runs l.initial.spans.items) l.olds.items (drop (count_of (take l.runs l.initial.spans.items)) l.initial.olds.items)
      l.ram.bytes (undone (runs_of (take l.runs l.initial.spans.items) l.initial.olds.items) l.initial.ram.bytes) (length l.initial.ram.bytes);
  marks : l.ram.marks ≡ l.initial.ram.marks;
  span_room : l.spans.capacity ≡ l.initial.spans.capacity;
  old_room : l.olds.capacity ≡ l.initial.olds.capacity;
  copied : l.copy ≡ l.ram.bytes;
}
