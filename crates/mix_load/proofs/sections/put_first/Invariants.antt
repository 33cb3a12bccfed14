use Rattle.std.proofs.Common.{◌≡◌, ℕ, ◌<◌, length, None}
use Rattle.mix_load.specs.Pieces.{with_pieces}
use Rattle.mix_load.specs.Sections.{first_refusal, sections_end}
use Rattle.mix_load.specs.SectionsClauses.{patterns_refusal}
use Rattle.mix_load.specs.inner.Sections.{contents_at, section_pieces}
use Rattle.mix_load.specs.laws.Sections.{total_at}
use Rattle.mix_load.proofs.sections.put_first.Given as goal

abbrev pub invariant-loop-k : goal.invariant-loop-k
invariant-loop-k l = record {
  end : l.end ≡ sections_end l.pef l.start l.k;
  passed : first_refusal (patterns_refusal l.pef) l.k ≡ None;
  sizes : (j : ℕ) → j < l.k → length (contents_at l.pef j) ≡ total_at l.pef j;
  memory : l.ram ≡ with_pieces (section_pieces l.pef l.start l.k) l.initial.ram;
  len : length l.ram.bytes ≡ length l.initial.ram.bytes;
}
