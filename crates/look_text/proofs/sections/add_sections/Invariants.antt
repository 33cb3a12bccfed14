-- The sections so far, and how far the end can have come.
use Rattle.std.proofs.Common.{◌≡◌, ◌+◌, ◌*◌, ◌^◌, ◌≤◌, ◌++◌}
use Rattle.mix_load.specs.Sections.{sections_end}
use Rattle.look_text.specs.Containers.{sections_text}
use Rattle.look_text.proofs.sections.add_sections.Given as goal

abbrev pub invariant-loop-k : goal.invariant-loop-k
invariant-loop-k l = record {
  text : l.text.items ≡ l.initial.text.items ++ sections_text l.pef l.start l.k;
  end : l.end ≡ sections_end l.pef l.start l.k;
  few : l.end ≤ l.start + l.k * 2 ^ 33;
}
