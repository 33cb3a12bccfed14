-- The classes of addressing modes
-- (M68000 Family Programmer's Reference Manual, section 2.3).
use Rattle.std.specs.Prelude.{ℕ, ◌==◌, ◌&&◌, ◌||◌, not, nat_lt, Bool, true, false}
use Rattle.mix_bits.specs.declared.size.Size.{Size}
use Rattle.mix_bits.specs.declared.size.Size.TheVariants.{Zero, One, Two, Four}

pub data Class : Type 0 where
  -- all modes
  Any : Class
  -- all but an address register
  Data : Class
  -- what can be changed
  Alterable : Class
  DataAlterable : Class
  MemoryAlterable : Class
  -- memory without a change of a register
  Control : Class
  ControlAlterable : Class

-- mode 7 has several modes, by the register: two absolute ones, two with the program
-- counter, and immediate
abbrev pub up_to : ℕ → ℕ → ℕ → Bool
up_to count mode register = nat_lt mode 7 || nat_lt register count

abbrev pub in_class : Class → ℕ → ℕ → Bool
in_class Any mode register = up_to 5 mode register
in_class Data mode register = not (mode == 1) && up_to 5 mode register
in_class Alterable mode register = up_to 2 mode register
in_class DataAlterable mode register = not (mode == 1) && up_to 2 mode register
in_class MemoryAlterable mode register = nat_lt 1 mode && up_to 2 mode register
in_class Control mode register = ((mode == 2) || nat_lt 4 mode) && up_to 4 mode register
in_class ControlAlterable mode register = ((mode == 2) || nat_lt 4 mode) && up_to 2 mode register

abbrev pub is_byte : Size → Bool
is_byte Zero = false
is_byte One = true
is_byte Two = false
is_byte Four = false

-- an address register has no byte
abbrev pub is_source : Class → Size → ℕ → ℕ → Bool
is_source class s mode register = in_class class mode register && not (is_byte s && (mode == 1))
