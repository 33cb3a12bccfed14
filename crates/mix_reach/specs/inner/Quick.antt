-- Where an instruction of 68K code stores, as the modes in its first word tell.
use Rattle.std.specs.Prelude.{◌≡◌, ℕ, ◌+◌, ◌%◌, ◌==◌, ◌≤◌, Bool, true, false, List, slice_index}
use Rattle.mix_bits.specs.Sizes.{bytes_of}
use Rattle.mix_bits.specs.declared.size.Size.{Size}
use Rattle.m68_isa.specs.declared.registers.Regs68.{Regs68}
use Rattle.m68_isa.specs.declared.op.Op68.{Op68}
use Rattle.m68_isa.specs.declared.op.Op68.TheVariants.{Ori, Andi, Subi, Addi, Eori, Cmpi, BitByNumber, BitByRegister, Movep, MoveByte, MoveWord, MoveLong, Negx, Clr, Neg, Not, MoveFromSr, Nbcd, Pea, MovemToMemory, Tas, Link, LinkLong, Jsr, Addq, Subq, Scc, BsrByte, BsrWord, BsrLong, OrToMemory, Sbcd, SubToMemory, Subx, Eor, AndToMemory, Abcd, AddToMemory, Addx, ShiftMemory, LineA}
use Rattle.m68_isa.specs.First.{First, long_or_word, size_of}
use Rattle.m68_isa.specs.Moves.{move_mode}
use Rattle.m68_isa.specs.Operands.{immediate_words, operand_at}
use Rattle.mix_bits.specs.Addresses.{backward}
use Rattle.m68_ea.specs.Places.{placed}
use Rattle.mix_reach.specs.declared.reach.Reach.{Reach}
use Rattle.mix_reach.specs.laws.Rows68.{below, into}

-- a value is stored into an operand, which ends with the fifth word at the latest
abbrev pub IsInto : Regs68 → List ℕ → ℕ → Size → ℕ → ℕ → Reach → Type 0
IsInto r ws first size mode lower w =
    let e = operand_at ws first size mode lower in
    (e.good ≡ true) × (e.next ≤ 5) × (w ≡ into r size e.ea)

-- one operand is changed
abbrev pub Changes : Regs68 → List ℕ → First → Reach → Type 0
Changes r ws f = IsInto r ws 1 (size_of f.size) f.mode f.lower

-- a value is moved to a destination that is found behind its source
abbrev pub Moves : Regs68 → List ℕ → First → Size → Reach → Type 0
Moves r ws f size w =
    let from = operand_at ws 1 size f.mode f.lower in
    (from.good ≡ true) × IsInto (placed r from.ea size).0 ws from.next size (move_mode f) f.upper w

-- registers are stored downwards from an address register
abbrev pub Saves : Regs68 → First → Reach → Type 0
Saves r f w = (f.mode ≡ 4) × (w ≡ below (backward (slice_index r.a f.lower) (bytes_of (long_or_word (f.size % 2)))))

-- the same behind an immediate
abbrev pub ChangesBy : Regs68 → List ℕ → First → Reach → Type 0
ChangesBy r ws f = IsInto r ws (1 + immediate_words (size_of f.size)) (size_of f.size) f.mode f.lower

-- whether an operation leaves memory as it is, as the first word tells: it changes a data register, or stores nowhere
abbrev pub keeps_memory : Op68 → First → Bool
keeps_memory Ori f = f.mode == 0
keeps_memory Andi f = f.mode == 0
keeps_memory Subi f = f.mode == 0
keeps_memory Addi f = f.mode == 0
keeps_memory Eori f = f.mode == 0
keeps_memory Cmpi f = f.mode == 0
keeps_memory BitByNumber f = f.mode == 0
keeps_memory BitByRegister f = f.mode == 0
keeps_memory Movep f = false
keeps_memory MoveByte f = move_mode f == 0
keeps_memory MoveWord f = move_mode f == 0
keeps_memory MoveLong f = move_mode f == 0
keeps_memory Negx f = f.mode == 0
keeps_memory Clr f = f.mode == 0
keeps_memory Neg f = f.mode == 0
keeps_memory Not f = f.mode == 0
keeps_memory MoveFromSr f = f.mode == 0
keeps_memory Nbcd f = f.mode == 0
keeps_memory Pea f = false
keeps_memory MovemToMemory f = false
keeps_memory Tas f = f.mode == 0
keeps_memory Link f = false
keeps_memory LinkLong f = false
keeps_memory Jsr f = false
keeps_memory Addq f = f.mode == 0
keeps_memory Subq f = f.mode == 0
keeps_memory Scc f = f.mode == 0
keeps_memory BsrByte f = false
keeps_memory BsrWord f = false
keeps_memory BsrLong f = false
keeps_memory OrToMemory f = false
keeps_memory Sbcd f = f.mode == 0
keeps_memory SubToMemory f = false
keeps_memory Subx f = f.mode == 0
keeps_memory Eor f = f.mode == 0
keeps_memory AndToMemory f = false
keeps_memory Abcd f = f.mode == 0
keeps_memory AddToMemory f = false
keeps_memory Addx f = f.mode == 0
keeps_memory ShiftMemory f = false
keeps_memory LineA f = false
keeps_memory op f = true
