-- Trap words and imports by number, as relations.
use Rattle.std.specs.Prelude.{ℕ, ◌≡◌, List, Option, Some, None}
use Rattle.toolbox.specs.declared.function.Function.{Function}
use Rattle.toolbox.specs.TableClauses.{imported}
use Rattle.toolbox.specs.Table.{number_of}
use Rattle.toolbox.specs.FunctionsClauses.{trap_of}

-- the number of the function that a trap word reaches, or none where no function has it
abbrev pub IsTrapIndex : ℕ → Option ℕ → Type 0
IsTrapIndex word None = (f : Function) → trap_of f ≡ Some word → ⊥
IsTrapIndex word (Some k) = (f : Function) × (trap_of f ≡ Some word) × (k ≡ number_of f)

-- the library and the name of a function
abbrev pub import_of : Function → Option (List ℕ × List ℕ)
import_of f = imported f

-- the number of the function that an import names, or none where it names none
abbrev pub IsImportIndex : List ℕ → List ℕ → Option ℕ → Type 0
IsImportIndex library name None = (f : Function) → import_of f ≡ Some (library, name) → ⊥
IsImportIndex library name (Some k) = (f : Function) × (import_of f ≡ Some (library, name)) × (k ≡ number_of f)
