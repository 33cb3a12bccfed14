-- Where an instruction of 68K code stores, by its row: at most four bytes at its destination or on the stack, and for
-- several registers as many bytes as sixteen longs have (M68000 Family Programmer's Reference Manual, section 4).
use Rattle.std.specs.Prelude.{ℕ, ◌+◌, ◌-◌, ◌==◌, Bool, if◌then◌else◌, slice_index}
use Rattle.mix_bits.specs.Addresses.{onward}
use Rattle.mix_bits.specs.Sizes.{bytes_of}
use Rattle.mix_bits.specs.declared.size.Size.{Size}
use Rattle.mix_bits.specs.declared.size.Size.TheVariants.{One, Two, Four}
use Rattle.m68_isa.specs.declared.registers.Regs68.{Regs68}
use Rattle.m68_isa.specs.declared.ea.Ea.{Ea}
use Rattle.m68_isa.specs.declared.ea.Ea.TheVariants.{Pre}
use Rattle.m68_isa.specs.declared.instructions.JumpOp.{JumpOp}
use Rattle.m68_isa.specs.declared.instructions.JumpOp.TheVariants.{Jsr, Jmp}
use Rattle.m68_isa.specs.declared.instructions.Instr68.{Instr68}
use Rattle.m68_isa.specs.declared.instructions.Instr68.TheVariants.{Immediate, BitByRegister, BitByNumber, Movep, Move, Negx, Clr, Neg, Not, MoveFromSr, Nbcd, Pea, MovemToMemory, Tas, Link, LinkLong, Jump, Quick, Scc, Bcc, BccLong, Or, Sbcd, Sub, Subx, Eor, And, Abcd, Add, Addx, ShiftMemory}
use Rattle.m68_ea.specs.declared.places.Place68.{Place68}
use Rattle.m68_ea.specs.declared.places.Place68.TheVariants.{Mem}
use Rattle.m68_ea.specs.Places.{address_of, placed}
use Rattle.mix_bits.specs.Addresses.{backward}
use Rattle.m68_effects.specs.Bits.{bit_size}
use Rattle.m68_effects.specs.Parts.{partner}
use Rattle.mix_reach.specs.declared.reach.Reach.{Reach}
use Rattle.mix_reach.specs.laws.Ranges.{nothing, range}

-- a value at a place
abbrev pub at_place : Place68 → Reach
at_place (Mem a) = range a 4
at_place p = nothing

abbrev pub into : Regs68 → Size → Ea → Reach
into r size to = at_place (placed r to size).1

-- a destination that is found behind a source
abbrev pub behind : Regs68 → Size → Ea → Ea → Reach
behind r size from to = into (placed r from size).0 size to

abbrev pub if_into : Bool → Regs68 → Size → Ea → Reach
if_into to_memory r size to = if to_memory then into r size to else nothing

abbrev pub pushes : Regs68 → Reach
pushes r = into r Four (Pre 7)

-- a jump to a subroutine pushes, and so does BSR among the branches
abbrev pub jumps : Regs68 → JumpOp → Reach
jumps r Jsr = pushes r
jumps r Jmp = nothing

abbrev pub branches : Regs68 → ℕ → Reach
branches r condition = if condition == 1 then pushes r else nothing

-- LINK's old value, at the stack pointer as it is then
abbrev pub links : Regs68 → Reach
links r = range (slice_index (placed r (Pre 7) Four).0.a 7) 4

-- values downwards, of which the first one stands at an address
abbrev pub below : ℕ → Reach
below first = record { low = first - 64; high = first + 4 }

abbrev pub several : Regs68 → Size → Ea → Reach
several r size (Pre base) = below (backward (slice_index r.a base) (bytes_of size))
several r size to = range (address_of r to) 64

abbrev pub stores : Regs68 → Instr68 → Reach
stores r (Immediate op size value to) = into r size to
stores r (BitByRegister op register to) = into r (bit_size to) to
stores r (BitByNumber op bit to) = into r (bit_size to) to
stores r (Movep size to_memory register base disp) = range (onward (slice_index r.a base) disp) 16
stores r (Move size from to) = behind r size from to
stores r (Negx size to) = into r size to
stores r (Clr size to) = into r size to
stores r (Neg size to) = into r size to
stores r (Not size to) = into r size to
stores r (MoveFromSr to) = into r Two to
stores r (Nbcd to) = into r One to
stores r (Pea from) = pushes r
stores r (MovemToMemory size mask to) = several r size to
stores r (Tas to) = into r One to
stores r (Link register disp) = links r
stores r (LinkLong register disp) = links r
stores r (Jump op to) = jumps r op
stores r (Quick op size number to) = into r size to
stores r (Scc condition to) = into r One to
stores r (Bcc condition disp) = branches r condition
stores r (BccLong condition disp) = branches r condition
stores r (Or size to_memory register operand) = if_into to_memory r size operand
stores r (Sbcd memory from to) = behind r One (partner memory from) (partner memory to)
stores r (Sub size to_memory register operand) = if_into to_memory r size operand
stores r (Subx size memory from to) = behind r size (partner memory from) (partner memory to)
stores r (Eor size register to) = into r size to
stores r (And size to_memory register operand) = if_into to_memory r size operand
stores r (Abcd memory from to) = behind r One (partner memory from) (partner memory to)
stores r (Add size to_memory register operand) = if_into to_memory r size operand
stores r (Addx size memory from to) = behind r size (partner memory from) (partner memory to)
stores r (ShiftMemory op left to) = into r Two to
stores r instruction = nothing
