use Rattle.std.proofs.Common.{◌≡◌, ◌+◌, ◌-◌, ◌*◌, ◌≤◌, length}
use Rattle.pef_reloc.specs.Additions.{runs, turn_of}
use Rattle.pef_reloc.specs.inner.Held.{outside_of, sources_of, state_of}
use Rattle.pef_reloc.specs.Lists.{times}
use Rattle.pef_reloc.proofs.additions.take_turns.Given as goal

abbrev pub invariant-loop-turn : goal.invariant-loop-turn
invariant-loop-turn l = record {
  same : runs (sources_of l.target) (times (l.count - l._turn) (turn_of l.turn)) (state_of l.target l.ram l.cursor)
      ≡ runs (sources_of l.target) (times l.count (turn_of l.turn)) (state_of l.target l.initial.ram l.initial.cursor);
  outside : outside_of l.target l.ram ≡ outside_of l.target l.initial.ram;
  len : length l.ram.bytes ≡ length l.initial.ram.bytes;
  left : l.cursor.left ≡ l.initial.cursor.left;
  over : l.cursor.over ≡ l.initial.cursor.over;
  bound : l.cursor.position ≤ l.initial.cursor.position + 12 * l._turn;
}
