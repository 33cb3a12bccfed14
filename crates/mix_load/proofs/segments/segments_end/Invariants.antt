use Rattle.std.proofs.Common.{◌≡◌, ◌+◌, ◌*◌, ◌^◌, ◌≤◌}
use Rattle.mix_load.specs.Segments.{segments_end}
use Rattle.mix_load.proofs.segments.segments_end.Given as goal

-- the end so far, and how far it can have come
abbrev pub invariant-loop-id : goal.invariant-loop-id
invariant-loop-id l = record { is : l.end ≡ segments_end l.fork l.start l.id; few : l.end ≤ l.start + l.id * 2 ^ 25 }
