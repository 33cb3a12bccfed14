use Rattle.std.proofs.Common.{◌≡◌, ◌≤◌, false, slice_range}
use Rattle.std.specs.List.{list_any}
use Rattle.pef_head.specs.inner.Names.{is_zero}
use Rattle.pef_head.proofs.names.names_end.Given as goal

abbrev pub invariant-loop-end : goal.invariant-loop-end
invariant-loop-end l = record {
  within : l.end ≤ l.fn.l.end;
  none : list_any is_zero (slice_range l.bytes l.end l.fn.l.end) ≡ false;
}

abbrev pub decreases-loop-end : goal.decreases-loop-end
decreases-loop-end l = l.end
