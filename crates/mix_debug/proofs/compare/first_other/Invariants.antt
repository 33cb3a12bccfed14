use Rattle.std.proofs.Common.{◌≡◌, ◌≤◌, ◌-◌, length, drop}
use Rattle.mix_debug.specs.inner.Entries.{first_other}
use Rattle.mix_debug.proofs.compare.first_other.Given as goal

abbrev pub decreases-same : goal.decreases-same
decreases-same l = length l.blocks - l.at

abbrev pub invariant-same : goal.invariant-same
invariant-same l = record {
  within : l.at ≤ length l.blocks;
  rest : first_other (drop l.at l.blocks) (drop l.at l.others) ≡ first_other l.blocks l.others;
}
