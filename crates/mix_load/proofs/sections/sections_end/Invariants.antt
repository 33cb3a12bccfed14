use Rattle.std.proofs.Common.{◌≡◌, ◌+◌, ◌*◌, ◌^◌, ◌≤◌}
use Rattle.mix_load.specs.Sections.{sections_end}
use Rattle.mix_load.proofs.sections.sections_end.Given as goal

-- the end so far, and how far it can have come
abbrev pub invariant-loop-k : goal.invariant-loop-k
invariant-loop-k l = record { is : l.end ≡ sections_end l.pef l.start l.k; few : l.end ≤ l.start + l.k * 2 ^ 33 }
