-- Parts of what the table says.
use Rattle.std.specs.Prelude.{ℕ, ◌==◌, Bool, false, ◌&&◌, List, map, is_some, slice_set, bytes_eq, Option}
use Rattle.std.specs.Option.{option_map_or}
use Rattle.dev_rack.specs.Rack.{State}
use Rattle.toolbox.specs.declared.function.Function.{Function}
use Rattle.toolbox.specs.declared.function.TheConstants.{ROWS}
use Rattle.toolbox.specs.declared.table.Row.{Row}
use Rattle.toolbox.specs.declared.values.Results.{Results}
use Rattle.ppc_isa.specs.declared.registers.RegsPpc.{RegsPpc}
use Rattle.toolbox.specs.Effects.{Around}
use Rattle.toolbox.specs.Registers.{with_gprs}
use Rattle.toolbox.specs.Table.{row}

abbrev pub rows : List Row
rows = ROWS

abbrev pub has_trap : Option ℕ → ℕ → Bool
has_trap own word = option_map_or (λ trap. trap == word) own false

-- whether what a function is imported by is this library and name
abbrev pub is_named : List ℕ → List ℕ → Option (List ℕ × List ℕ) → Bool
is_named library name own = option_map_or (λ both. bytes_eq both.0 library && bytes_eq both.1 name) own false

-- what a rack and an input hold for the machine, for some bytes that are left and some answers to come
abbrev pub around_of : State → List ℕ → List (Option ℕ) → Around
around_of rack input answers = record { input = input; slots = map is_some rack.slots; asks = rack.journal; answers = answers }

-- a slot is emptied; one that holds no device, or is none, stays as it is
abbrev pub emptied : Around → ℕ → Around
emptied around slot = record around { slots = slice_set around.slots slot false }

-- the general registers of PowerPC code that get a function's results
abbrev pub with_results : Function → Results → RegsPpc → RegsPpc
with_results f x regs = with_gprs (row f).ppc_results x regs
