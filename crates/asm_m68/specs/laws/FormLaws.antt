-- Laws of the table of names: a name has a form exactly where it is in the list (the texts are this project's own).
use Rattle.std.specs.Prelude.{ℕ, ◌≡◌, List}
use Rattle.std.specs.Option.{is_some}
use Rattle.m68_text.specs.Listed.{is_name}
use Rattle.asm_m68.specs.laws.Table.{form_of}

-- a name has a form exactly where it is in the list
abbrev pub FormsAreListed : Type 0
FormsAreListed = (n : List ℕ) → is_some (form_of n) ≡ is_name n
