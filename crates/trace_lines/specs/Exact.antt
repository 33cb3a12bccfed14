-- What it means that a text is read as an event.
use Rattle.std.specs.Prelude.{ℕ, ◌≡◌, ◌↔◌, List, ◌++◌, codes, Option, Some}
use Rattle.trace_lines.specs.EventLines.{IsEvent, line_of}
use Rattle.trace_lines.specs.declared.event.Event.{Event}

-- the events that are read of a text are exactly those whose line it is, with the line feed that ends the line
abbrev pub ReadsExactly : Option Event → List ℕ → Type 0
ReadsExactly read text = (e : Event) → (read ≡ Some e) ↔ (IsEvent e × (line_of e ≡ text ++ codes "\n"))
