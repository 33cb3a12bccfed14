-- The segments so far, and how far the end can have come.
use Rattle.std.proofs.Common.{◌≡◌, ◌+◌, ◌*◌, ◌^◌, ◌≤◌, ◌++◌}
use Rattle.mix_load.specs.Segments.{segments_end}
use Rattle.mix_load.specs.SegmentsClauses.{segment_places}
use Rattle.look_text.specs.Forks.{segments_text}
use Rattle.look_text.proofs.segments.add_segments.Given as goal

abbrev pub invariant-loop-id : goal.invariant-loop-id
invariant-loop-id l = record {
  text : l.text.items ≡ l.initial.text.items ++ segments_text l.fork l.start l.id;
  places : l.places.items ≡ segment_places l.fork l.start l.id;
  end : l.end ≡ segments_end l.fork l.start l.id;
  few : l.end ≤ l.start + l.id * 2 ^ 25;
}
