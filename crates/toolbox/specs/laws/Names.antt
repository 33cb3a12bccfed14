-- Numbers of traps and imports are their own.
use Rattle.std.specs.Prelude.{ℕ, ◌≡◌, ◌<◌, ◌↔◌, List, Option, IfSome}
use Rattle.big_memory.specs.Map.{host_functions}
use Rattle.toolbox.specs.Functions.{trap_number}
use Rattle.toolbox.specs.NamesClauses.{IsTrapIndex, IsImportIndex}
use Rattle.toolbox.specs.Names.{import_index}

-- a trap word has at most one such number
abbrev pub TrapsHaveOneNumber : Type 0
TrapsHaveOneNumber = (word : ℕ) (index : Option ℕ) → IsTrapIndex word index → trap_number word ≡ index

-- each number is that of the function with the word
abbrev pub TrapsAreNumbered : Type 0
TrapsAreNumbered = (word : ℕ) → IsTrapIndex word (trap_number word)

-- no other number is the import's
abbrev pub ImportsHaveOneNumber : Type 0
ImportsHaveOneNumber = (library name : List ℕ) (index : Option ℕ) → (index ≡ import_index library name) ↔ IsImportIndex library name index

-- the function that has no name has the last number
abbrev pub ImportsAreNumbered : Type 0
ImportsAreNumbered = (library name : List ℕ) → IfSome (import_index library name) (λ k. k < host_functions)
