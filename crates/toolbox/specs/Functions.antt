-- The functions of the host table by their numbers, and by the 68K traps that reach them.
use Rattle.std.specs.Prelude.{ℕ, ◌==◌, false, slice_index_or, Option}
use Rattle.std.specs.List.{position}
use Rattle.std.specs.Option.{option_map_or}
use Rattle.toolbox.specs.declared.function.Function.{Function}
use Rattle.toolbox.specs.declared.function.TheConstants.{ROWS}
use Rattle.toolbox.specs.declared.table.TheConstants.{NOWHERE}

-- the function of a number below 16
abbrev pub function_at : ℕ → Function
function_at k = (slice_index_or ROWS k NOWHERE).function

-- the number of the function that a trap word reaches
unfoldable pub trap_number : ℕ → Option ℕ
trap_number word = position (λ r. option_map_or (λ trap. trap == word) r.trap false) ROWS
