-- The size of one section among others.
use Rattle.std.specs.Prelude.{ℕ, List}
use Rattle.pef_head.specs.Parts.{section_at}

abbrev pub total_at : List ℕ → ℕ → ℕ
total_at bytes k = (section_at bytes k).total
