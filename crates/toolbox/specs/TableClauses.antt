-- The library and the name under which a function is imported.
use Rattle.std.specs.Prelude.{ℕ, List, slice_index_or, Option, None}
use Rattle.toolbox.specs.declared.function.Function.{Function}
use Rattle.toolbox.specs.Table.{imports, number_of}

abbrev pub imported : Function → Option (List ℕ × List ℕ)
imported f = slice_index_or imports (number_of f) None
