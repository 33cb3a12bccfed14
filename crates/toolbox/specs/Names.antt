-- The functions of the host table as relations: by trap words, and by the libraries and names that containers import.
use Rattle.std.specs.Prelude.{ℕ, false, ◌&&◌, List, bytes_eq, Option}
use Rattle.std.specs.List.{position_from}
use Rattle.std.specs.Option.{option_map_or}
use Rattle.toolbox.specs.Table.{imports}

-- the number of the function that an import names, as a value
unfoldable pub import_index : List ℕ → List ℕ → Option ℕ
import_index library name =
    position_from (λ i. option_map_or (λ both. bytes_eq both.0 library && bytes_eq both.1 name) i false) 0 imports
