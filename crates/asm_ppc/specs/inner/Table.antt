-- The table of names: the word of each with zeros for operands, and the places of its operands
-- (PowerPC 601 RISC Microprocessor User's Manual, chapter 10).
use Rattle.std.specs.Prelude.{ℕ, List, [], ◌∷◌, Option, Some, None, map, if◌then◌else◌}
use Rattle.std.specs.Str.{bytes_eq}
use Rattle.asm_ppc.specs.declared.layout.Layout.{Layout}
use Rattle.asm_ppc.specs.declared.layout.Spelling.{Spelling}
use Rattle.asm_ppc.specs.declared.table.TheConstants.{TABLE}

-- a name, its word and its layout
abbrev pub Row : Type 0
Row = List ℕ × ℕ × Layout

-- what the first row of a name says
abbrev pub lookup : List ℕ → List Row → Option Spelling
lookup name [] = None
lookup name (r ∷ rs) = if bytes_eq r.0 name then Some (record { word = r.1; layout = r.2 }) else lookup name rs

-- the rows of the code
unfoldable pub table : List Row
table = map (λ r. (r.0.now, r.1, r.2)) TABLE

-- what the table says of a name
unfoldable pub looked_up : List ℕ → Option Spelling
looked_up name = lookup name table
