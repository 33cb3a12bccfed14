use Rattle.std.proofs.Common.{◌≡◌}
use Rattle.mix_load.specs.Sections.{sections_end}
use Rattle.mix_load.specs.SectionsClauses.{bases}
use Rattle.mix_load.specs.inner.Sections.{totals}
use Rattle.mix_load.proofs.sections.place_first.Given as goal

abbrev pub invariant-loop-k : goal.invariant-loop-k
invariant-loop-k l = record {
  end : l.end ≡ sections_end l.pef l.start l.k;
  bases : l.bases.items ≡ bases l.pef l.start l.k;
  totals : l.totals.items ≡ totals l.pef l.k;
}
