-- The parts of the names of instructions: operations, conditions and sizes
-- (M68000 Family Programmer's Reference Manual, section 4; conditions in table 3-19).
use Rattle.std.specs.Prelude.{ℕ, List, [], ◌++◌, codes, ◌==◌, Bool, if◌then◌else◌}
use Rattle.mix_bits.specs.declared.size.Size.{Size}
use Rattle.mix_bits.specs.declared.size.Size.TheVariants.{Zero, One, Two, Four}
use Rattle.m68_isa.specs.declared.instructions.BitOp.{BitOp}
use Rattle.m68_isa.specs.declared.instructions.BitOp.TheVariants.{Btst, Bchg, Bclr, Bset}
use Rattle.m68_isa.specs.declared.instructions.ImmediateOp.{ImmediateOp}
use Rattle.m68_isa.specs.declared.instructions.ImmediateOp.TheVariants.{Ori, Andi, Subi, Addi, Eori, Cmpi}
use Rattle.m68_isa.specs.declared.instructions.LogicOp.{LogicOp}
use Rattle.m68_isa.specs.declared.instructions.LogicOp.TheVariants.{And as LogicAnd, Or as LogicOr, Eor as LogicEor}
use Rattle.m68_isa.specs.declared.instructions.ShiftOp.{ShiftOp}
use Rattle.m68_isa.specs.declared.instructions.ShiftOp.TheVariants.{As, Ls, Rox, Ro}
use Rattle.m68_isa.specs.declared.instructions.PlainOp.{PlainOp}
use Rattle.m68_isa.specs.declared.instructions.PlainOp.TheVariants.{Nop, Rts}
use Rattle.m68_isa.specs.declared.instructions.JumpOp.{JumpOp}
use Rattle.m68_isa.specs.declared.instructions.JumpOp.TheVariants.{Jsr, Jmp}
use Rattle.m68_isa.specs.declared.instructions.QuickOp.{QuickOp}
use Rattle.m68_isa.specs.declared.instructions.QuickOp.TheVariants.{Addq, Subq}

-- none where there is no value
abbrev pub suffix : Size → List ℕ
suffix Zero = []
suffix One = codes ".b"
suffix Two = codes ".w"
suffix Four = codes ".l"

abbrev pub condition_name : ℕ → List ℕ
condition_name c =
    if c == 0 then codes "t"
    else if c == 1 then codes "f"
    else if c == 2 then codes "hi"
    else if c == 3 then codes "ls"
    else if c == 4 then codes "cc"
    else if c == 5 then codes "cs"
    else if c == 6 then codes "ne"
    else if c == 7 then codes "eq"
    else if c == 8 then codes "vc"
    else if c == 9 then codes "vs"
    else if c == 10 then codes "pl"
    else if c == 11 then codes "mi"
    else if c == 12 then codes "ge"
    else if c == 13 then codes "lt"
    else if c == 14 then codes "gt"
    else codes "le"

abbrev pub immediate_name : ImmediateOp → List ℕ
immediate_name Ori = codes "ori"
immediate_name Andi = codes "andi"
immediate_name Subi = codes "subi"
immediate_name Addi = codes "addi"
immediate_name Eori = codes "eori"
immediate_name Cmpi = codes "cmpi"

-- with an immediate and the condition codes
abbrev pub logic_name : LogicOp → List ℕ
logic_name LogicAnd = codes "andi"
logic_name LogicOr = codes "ori"
logic_name LogicEor = codes "eori"

abbrev pub bit_name : BitOp → List ℕ
bit_name Btst = codes "btst"
bit_name Bchg = codes "bchg"
bit_name Bclr = codes "bclr"
bit_name Bset = codes "bset"

abbrev pub shift_kind : ShiftOp → List ℕ
shift_kind As = codes "as"
shift_kind Ls = codes "ls"
shift_kind Rox = codes "rox"
shift_kind Ro = codes "ro"

abbrev pub shift_name : ShiftOp → Bool → List ℕ
shift_name op left = shift_kind op ++ (if left then codes "l" else codes "r")

-- conditions 0 and 1 are a branch that is always taken, and one to a subroutine
abbrev pub branch_name : ℕ → List ℕ
branch_name c = if c == 0 then codes "bra" else if c == 1 then codes "bsr" else codes "b" ++ condition_name c

-- whether the displacement is in the first word, or in one of its own
abbrev pub branch_suffix : ℕ → List ℕ
branch_suffix used = if used == 1 then codes ".b" else codes ".w"

abbrev pub plain_name : PlainOp → List ℕ
plain_name Nop = codes "nop"
plain_name Rts = codes "rts"

abbrev pub jump_name : JumpOp → List ℕ
jump_name Jsr = codes "jsr"
jump_name Jmp = codes "jmp"

abbrev pub quick_name : QuickOp → List ℕ
quick_name Addq = codes "addq"
quick_name Subq = codes "subq"
