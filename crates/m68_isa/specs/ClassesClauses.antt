-- A mode that may be written (M68000 Family Programmer's Reference Manual, section 2.3).
use Rattle.std.specs.Prelude.{ℕ, ◌≡◌, true}
use Rattle.m68_isa.specs.Classes.Class.{Alterable}
use Rattle.m68_isa.specs.Classes.{in_class}

-- a place that may be written: no immediate value, and none that the program counter gives
unfoldable pub IsAlterable : ℕ → ℕ → Type 0
IsAlterable mode register = in_class Alterable mode register ≡ true
