use Rattle.std.proofs.Common.{◌≡◌, ℕ, ◌<◌, IfSome}
use Rattle.mix_bits.specs.Search.{any_below, least}
use Rattle.mix_load.specs.SegmentsClauses.{is_far, is_segment, is_short}
use Rattle.mix_load.proofs.segments.walk_segments.Given as goal

-- what the ids so far show
abbrev pub invariant-loop-id : goal.invariant-loop-id
invariant-loop-id l = record {
  some : l.found.some ≡ any_below (is_segment l.fork) l.id;
  far : l.found.far ≡ least (is_far l.fork) l.id;
  below : IfSome l.found.far (λ (first : ℕ). first < l.id);
  short : l.found.short ≡ any_below (is_short l.fork) l.id;
}
