-- The numbers of conventions, sizes, registers and refusals
-- (Inside Macintosh: PowerPC System Software, chapter 2).
use Rattle.std.specs.Prelude.{ℕ, List, [], ◌∷◌, slice_index_or, Bool, true, false, Result, Ok, Err, if◌then◌else◌, ◌==◌, ◌&&◌, ◌||◌, nat_le}
use Rattle.mix_bits.specs.declared.size.Size.{Size}
use Rattle.mix_bits.specs.declared.size.Size.TheVariants.{Zero, One, Two, Four}
use Rattle.proc_info.specs.declared.bad_info.BadInfo.{BadInfo}
use Rattle.proc_info.specs.declared.bad_info.BadInfo.TheVariants.{Convention, TopBit, Place, Gap, Twice}
use Rattle.proc_info.specs.declared.conv.Conv.{Conv}
use Rattle.proc_info.specs.declared.conv.Conv.TheVariants.{Pascal, C, Register, D0Pascal, D0C, D1Pascal, StackPascal}
use Rattle.proc_info.specs.declared.conv.Shape.{Shape}
use Rattle.proc_info.specs.declared.conv.Shape.TheVariants.{Stack, Dispatched, Registers as InRegisters}
use Rattle.proc_info.specs.declared.conv.Route.{Route}
use Rattle.proc_info.specs.declared.conv.Route.TheVariants.{PascalStack, Registers}
use Rattle.proc_info.specs.declared.conv.Dispatch.{Dispatch}
use Rattle.proc_info.specs.declared.conv.Dispatch.TheVariants.{Nowhere}
use Rattle.proc_info.specs.declared.conv.TheConstants.{CONVENTIONS}

-- a row of the table of conventions: a convention, its number, how it passes parameters and results, and where a selector
abbrev pub Row : Type 0
Row = Conv × ℕ × Route × Dispatch

abbrev pub number_of : Conv → ℕ
number_of Pascal = 0
number_of C = 1
number_of Register = 2
number_of D0Pascal = 3
number_of D0C = 4
number_of D1Pascal = 5
number_of StackPascal = 6

abbrev pub row : Conv → Row
row conv = slice_index_or CONVENTIONS (number_of conv) (Pascal, 0, PascalStack, Nowhere)

-- the convention of a number
abbrev pub conv_among : ℕ → List Row → Result Conv BadInfo
conv_among code [] = Err Convention
conv_among code (r ∷ rows) = if code == r.1 then Ok r.0 else conv_among code rows

abbrev pub conv_at : ℕ → Result Conv BadInfo
conv_at code = conv_among code CONVENTIONS

abbrev pub dispatch_of : Conv → Dispatch
dispatch_of conv = (row conv).3

-- the shape of a convention's words
abbrev pub shape_by : Route → Dispatch → Shape
shape_by Registers _ = InRegisters
shape_by _ Nowhere = Stack
shape_by _ _ = Dispatched

abbrev pub shape_of : Conv → Shape
shape_of conv = shape_by (row conv).2 (row conv).3

-- whether a convention has a selector
abbrev pub has_selector : Shape → Bool
has_selector Dispatched = true
has_selector _ = false

abbrev pub is_dispatched : Conv → Bool
is_dispatched conv = has_selector (shape_of conv)

abbrev pub size_code : Size → ℕ
size_code Zero = 0
size_code One = 1
size_code Two = 2
size_code Four = 3

-- the size of a number below 4
abbrev pub size_at : ℕ → Size
size_at code = if code == 0 then Zero else (if code == 1 then One else (if code == 2 then Two else Four))

-- whether a result of this size may have this place: D0 to D3 are 0 to 3, A0 to A3 4 to 7, D4 to D7 8 to 11,
-- A4 to A6 12 to 14, and the condition bits C, V, Z, N, X 16 to 20
abbrev pub is_place : ℕ → Size → Bool
is_place place size = if size_code size == 0 then place == 0 else (nat_le place 14 || (nat_le 16 place && nat_le place 20))

abbrev pub bad_info_code : BadInfo → ℕ
bad_info_code Convention = 1
bad_info_code TopBit = 2
bad_info_code Place = 3
bad_info_code Gap = 4
bad_info_code Twice = 5
