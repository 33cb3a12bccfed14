use Rattle.std.proofs.Common.{◌≡◌, ◌+◌, ◌-◌, ◌++◌, length, take}
use Rattle.pef_reloc.specs.Lists.{times}
use Rattle.pef_reloc.proofs.writing.write_again.Given as goal

abbrev pub invariant-loop-turn : goal.invariant-loop-turn
invariant-loop-turn l = record {
  done : take l.at l.to ++ times (l.turns - l._turn) l.block ≡ times l.turns l.block;
  left : l.at + length (times (l.turns - l._turn) l.block) ≡ length l.to;
}
