use Rattle.std.proofs.Common.{◌≡◌, ◌-◌, ◌≤◌, ◌++◌, length, take, drop}
use Rattle.pef_reloc.specs.Pattern.{unpacked, unpacked_by}
use Rattle.pef_reloc.proofs.pattern.unpack.Given as goal

abbrev pub invariant-loop-rest : goal.invariant-loop-rest
invariant-loop-rest l = record {
  refusal : (unpacked_by (length l.rest) (length l.from) l.rest (length l.to - l.at)).refusal ≡ (unpacked l.from (length l.to)).refusal;
  written : take l.at l.to ++ (unpacked_by (length l.rest) (length l.from) l.rest (length l.to - l.at)).written ≡ (unpacked l.from (length l.to)).written;
  kept : drop l.at l.to ≡ drop l.at l.initial.to;
  room : l.at ≤ length l.to;
  less : length l.rest ≤ length l.from;
}

abbrev pub decreases-loop-rest : goal.decreases-loop-rest
decreases-loop-rest l = length l.rest
