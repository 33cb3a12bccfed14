use Rattle.std.proofs.Common.{◌≡◌, ◌-◌, ◌≤◌, length}
use Rattle.pef_reloc.specs.inner.Held.{budget, outside_of, sources_of, state_of}
use Rattle.pef_reloc.specs.Program.{run_times}
use Rattle.pef_reloc.proofs.program.run_times.Given as goal

abbrev pub invariant-loop-turn : goal.invariant-loop-turn
invariant-loop-turn l = record {
  same : run_times (sources_of l.target) l.span (l.times - l._turn) (state_of l.target l.ram l.cursor)
      ≡ run_times (sources_of l.target) l.span l.times (state_of l.target l.initial.ram l.initial.cursor);
  outside : outside_of l.target l.ram ≡ outside_of l.target l.initial.ram;
  len : length l.ram.bytes ≡ length l.initial.ram.bytes;
  bound : budget l.cursor ≤ budget l.initial.cursor;
}
