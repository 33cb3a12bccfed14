-- What operands name: a string's registers, and a base
-- (PowerPC 601 RISC Microprocessor User's Manual, chapter 10, lswi and stswi, and its loads and stores).
use Rattle.std.specs.Prelude.{ℕ, zero, suc, ◌+◌, ◌/◌, ◌%◌, List, [], ◌∷◌, Bool, not, ◌==◌, if◌then◌else◌}

-- how many bytes a string of NB bytes has, where 0 stands for 32
abbrev pub string_length : ℕ → ℕ
string_length nb = if nb == 0 then 32 else nb

-- how many registers it fills
abbrev pub string_registers : ℕ → ℕ
string_registers nb = (string_length nb + 3) / 4

-- the numbers of `count` registers from `d` on; register 0 follows on register 31
abbrev pub registers_from : ℕ → ℕ → List ℕ
registers_from d zero = []
registers_from d (suc count) = d ∷ registers_from ((d + 1) % 32) count

-- in an address register 0 is no base
abbrev pub is_base : ℕ → Bool
is_base a = not (a == 0)
