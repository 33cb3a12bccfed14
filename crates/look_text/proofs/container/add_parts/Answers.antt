-- All sections and all imports.
use Rattle.look_text.proofs.Lines.{two}
use Rattle.look_text.proofs.container.add_parts.Goals as goal

pub returns : goal.returns
returns c = two _ _ _ _ _ _ (rw c.sections.ensures.is at c.in_ok-add_sections.ensures) (rw c.imports.ensures.is at c.add_imports.ensures)
