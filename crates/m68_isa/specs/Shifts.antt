-- Line E: shifts and rotations
-- (M68000 Family Programmer's Reference Manual, section 8, shift and rotate).
use Rattle.std.specs.Prelude.{ℕ, ◌%◌, ◌==◌, ◌&&◌, nat_lt, if◌then◌else◌, List, [], ◌∷◌}
use Rattle.mix_bits.specs.declared.size.Size.TheVariants.{Two}
use Rattle.m68_isa.specs.declared.instructions.ShiftOp.{ShiftOp}
use Rattle.m68_isa.specs.declared.instructions.ShiftOp.TheVariants.{As, Ls, Rox, Ro}
use Rattle.m68_isa.specs.declared.instructions.ShiftCount.{ShiftCount}
use Rattle.m68_isa.specs.declared.instructions.ShiftCount.TheVariants.{Number, Register}
use Rattle.m68_isa.specs.declared.instructions.Instr68.TheVariants.{Shift, ShiftMemory}
use Rattle.m68_isa.specs.Classes.{in_class}
use Rattle.m68_isa.specs.Classes.Class.{MemoryAlterable}
use Rattle.m68_isa.specs.First.{First, size_of, one_to_eight}
use Rattle.m68_isa.specs.Rows.{Row, row, words, one}

-- 00 as, 01 ls, 10 rox, 11 ro
abbrev pub shift_op : ℕ → ShiftOp
shift_op bits = if bits == 0 then As else if bits == 1 then Ls else if bits == 2 then Rox else Ro

-- bit 5 clear: a number, where 0 stands for 8; set: a register
abbrev pub shift_count : First → ShiftCount
shift_count f = if nat_lt f.mode 4 then Number (one_to_eight f.upper) else Register f.upper

-- 1110 cccd ss0t tyyy, 1110 cccd ss1t tyyy: a register by a count, to the left where d is 1
-- 1110 0ttd 11ee eeee: a word in memory by one
abbrev pub rows_E : List Row
rows_E =
    row (λ f. nat_lt f.size 3) (λ f ws. words 1 (Shift (shift_op (f.mode % 4)) (f.bit8 == 1) (size_of f.size) (shift_count f) f.lower))
    ∷ row (λ f. (f.size == 3) && nat_lt f.upper 4 && in_class MemoryAlterable f.mode f.lower) (λ f. one (ShiftMemory (shift_op f.upper) (f.bit8 == 1)) Two f)
    ∷ []
