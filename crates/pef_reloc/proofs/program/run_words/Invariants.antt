use Rattle.std.proofs.Common.{◌≡◌, ◌+◌, ◌-◌, ◌≤◌, length}
use Rattle.pef_reloc.specs.inner.Held.{budget, outside_of, sources_of, state_of}
use Rattle.pef_reloc.specs.Program.{each}
use Rattle.pef_reloc.specs.inner.Program.{run_at}
use Rattle.pef_reloc.proofs.program.run_words.Given as goal

abbrev pub invariant-loop-place : goal.invariant-loop-place
invariant-loop-place l = record {
  same : each l.words (run_at (sources_of l.target) l.words) l.place (state_of l.target l.ram l.cursor)
      ≡ each l.words (run_at (sources_of l.target) l.words) 0 (state_of l.target l.initial.ram l.initial.cursor);
  near : l.place ≤ length l.words + 2;
  outside : outside_of l.target l.ram ≡ outside_of l.target l.initial.ram;
  len : length l.ram.bytes ≡ length l.initial.ram.bytes;
  bound : budget l.cursor ≤ budget l.initial.cursor;
}

abbrev pub decreases-loop-place : goal.decreases-loop-place
decreases-loop-place l = length l.words - l.place
