use Rattle.std.proofs.Common.{◌≡◌, ℕ, ◌+◌, ◌-◌, ◌<◌, ◌≤◌, ◌&&◌, nat_lt}
use Rattle.std.specs.Int.{from_bool}
use Rattle.pef_head.specs.inner.Marks.{is_marked}
use Rattle.pef_head.specs.Owners.{owners}
use Rattle.pef_head.specs.Places.{holds}
use Rattle.pef_head.proofs.owners.mark.Given as goal

-- the symbols of this library before i are marked too
abbrev pub invariant-loop-i : goal.invariant-loop-i
invariant-loop-i l = (k : ℕ) → l.from ≤ k → k < l.limit
    → owners l.bytes l.fn.l l.fn.j k + from_bool (holds l.bytes l.fn.l k l.fn.j && nat_lt k l.i) ≡ from_bool (is_marked l.marks (k - l.from))
