use Rattle.std.proofs.Common.{◌≡◌, length}
use Rattle.mix_load.specs.Pieces.{with_pieces}
use Rattle.mix_load.specs.Segments.{segment_pieces, segments_end}
use Rattle.mix_load.specs.SegmentsClauses.{segment_places}
use Rattle.mix_load.proofs.segments.put_segments.Given as goal

abbrev pub invariant-loop-id : goal.invariant-loop-id
invariant-loop-id l = record {
  end : l.end ≡ segments_end l.fork l.start l.id;
  places : l.places.items ≡ segment_places l.fork l.start l.id;
  memory : l.ram ≡ with_pieces (segment_pieces l.fork l.start l.id) l.initial.ram;
  len : length l.ram.bytes ≡ length l.initial.ram.bytes;
}
