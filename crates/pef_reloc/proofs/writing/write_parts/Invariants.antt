use Rattle.std.proofs.Common.{◌≡◌, ◌+◌, ◌-◌, ◌*◌, ◌≤◌, ◌++◌, length, take}
use Rattle.pef_reloc.specs.Pattern.{followed}
use Rattle.pef_reloc.specs.inner.Pieces.{mixed}
use Rattle.pef_reloc.proofs.writing.write_parts.Given as goal

abbrev pub invariant-loop-part : goal.invariant-loop-part
invariant-loop-part l = record {
  front : take l.common l.to ≡ take l.common l.initial.to;
  behind : l.common ≤ l.at;
  whole : length l.rest ≡ (l.parts.count - l._part) * l.parts.size;
  left : l.at + length (followed (take l.common l.initial.to) l.parts.size (l.parts.count - l._part) l.rest) ≡ length l.to;
  done : take l.at l.to ++ followed (take l.common l.initial.to) l.parts.size (l.parts.count - l._part) l.rest ≡ mixed (take l.common l.initial.to) l.parts;
}
