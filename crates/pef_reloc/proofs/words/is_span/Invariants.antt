use Rattle.std.proofs.Common.{◌≡◌, ◌+◌, ◌-◌, ◌≤◌, true, length}
use Rattle.std.specs.Result.{is_ok}
use Rattle.pef_reloc.specs.Program.{each, is_span}
use Rattle.pef_reloc.specs.inner.Program.{fill_span}
use Rattle.pef_reloc.proofs.words.is_span.Given as goal

abbrev pub invariant-loop-place : goal.invariant-loop-place
invariant-loop-place l = record {
  same : is_ok (each l.span (fill_span l.span) l.place true) ≡ is_span l.span;
  near : l.place ≤ length l.span + 2;
}

abbrev pub decreases-loop-place : goal.decreases-loop-place
decreases-loop-place l = length l.span - l.place
