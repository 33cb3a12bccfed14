-- The shape of the table of instructions
-- (M68000 Family Programmer's Reference Manual, section 8).
use Rattle.std.specs.Prelude.{ℕ, ◌==◌, ◌&&◌, List, [], ◌∷◌, Bool, true, if◌then◌else◌}
use Rattle.mix_bits.specs.declared.size.Size.{Size}
use Rattle.m68_isa.specs.declared.ea.Ea.{Ea}
use Rattle.m68_isa.specs.declared.instructions.Instr68.{Instr68}
use Rattle.m68_isa.specs.declared.operand.Operand.{Operand}
use Rattle.m68_isa.specs.declared.found.Found.{Found}
use Rattle.m68_isa.specs.declared.found.Found.TheVariants.{Made, Illegal}
use Rattle.m68_isa.specs.First.{First, size_of}
use Rattle.m68_isa.specs.Operands.{operand_at}

-- a row: which first words of its section it has, and what it makes of one's parts and of the words
pub data Row : Type 0 where
  row : (First → Bool) → (First → List ℕ → Found) → Row

-- what the first row that has the first word makes; a word in no row is illegal
abbrev pub chosen : List Row → First → List ℕ → Found
chosen [] f ws = Illegal
chosen (row has make ∷ rows) f ws = if has f then make f ws else chosen rows f ws

-- a section: its line, which is bits 15 to 12; which of the line's first words it has; and its rows
pub data Section : Type 0 where
  section : ℕ → (First → Bool) → List Row → Section

-- the rows of a first word's section
abbrev pub rows_in : List Section → First → List Row
rows_in [] f = []
rows_in (section line has rows ∷ sections) f = if (f.line == line) && has f then rows else rows_in sections f

-- an instruction of so many words, none of which is an index word
abbrev pub words : ℕ → Instr68 → Found
words count i = Made i count true

-- an instruction that ends with an operand's words
abbrev pub taken : Instr68 → Operand → Found
taken i last = Made i last.next last.good

-- an instruction of one operand of this size, which the first word's low six bits give
abbrev pub one : (Ea → Instr68) → Size → First → List ℕ → Found
one make s f ws = let e = operand_at ws 1 s f.mode f.lower in taken (make e.ea) e

-- the same at the size of bits 7 and 6
abbrev pub sized : (Size → Ea → Instr68) → First → List ℕ → Found
sized make f ws = one (make (size_of f.size)) (size_of f.size) f ws
