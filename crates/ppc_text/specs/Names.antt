-- The names of families of instructions (PowerPC 601 RISC Microprocessor User's Manual, chapter 10), each
-- with the letters of what the word asks for: u for the update of the base, o for OV, a point for
-- CR0, l for LR, a for an absolute target.
use Rattle.std.specs.Prelude.{List, [], ◌++◌, codes, ℕ, Bool, if◌then◌else◌}
use Rattle.ppc_isa.specs.declared.instruction.CarryUse.{CarryUse}
use Rattle.ppc_isa.specs.declared.instruction.CarryUse.TheVariants.{Plain, Carrying, Extended}
use Rattle.ppc_isa.specs.declared.instruction.ExtendedOperand.{ExtendedOperand}
use Rattle.ppc_isa.specs.declared.instruction.ExtendedOperand.TheVariants.{Zero, MinusOne}
use Rattle.ppc_isa.specs.declared.instruction.ImmediateOp.{ImmediateOp}
use Rattle.ppc_isa.specs.declared.instruction.ImmediateOp.TheVariants.{Or as ImmediateOr, OrShifted, Xor as ImmediateXor, XorShifted, And as ImmediateAnd, AndShifted}
use Rattle.ppc_isa.specs.declared.instruction.LogicalOp.{LogicalOp}
use Rattle.ppc_isa.specs.declared.instruction.LogicalOp.TheVariants.{And, Or, Xor, Nand, Nor, Equivalent, AndComplement, OrComplement}
use Rattle.ppc_isa.specs.declared.instruction.UnaryOp.{UnaryOp}
use Rattle.ppc_isa.specs.declared.instruction.UnaryOp.TheVariants.{ExtendSignByte, ExtendSignHalf, CountLeadingZeros}
use Rattle.ppc_isa.specs.declared.instruction.ShiftOp.{ShiftOp}
use Rattle.ppc_isa.specs.declared.instruction.ShiftOp.TheVariants.{Left, Right, RightAlgebraic}
use Rattle.ppc_isa.specs.declared.instruction.MaskUse.{MaskUse}
use Rattle.ppc_isa.specs.declared.instruction.MaskUse.TheVariants.{Insert, Clear}
use Rattle.ppc_isa.specs.declared.instruction.LoadKind.{LoadKind}
use Rattle.ppc_isa.specs.declared.instruction.LoadKind.TheVariants.{Word as LoadWord, Byte as LoadByte, Half as LoadHalf, HalfAlgebraic}
use Rattle.ppc_isa.specs.declared.instruction.StoreKind.{StoreKind}
use Rattle.ppc_isa.specs.declared.instruction.StoreKind.TheVariants.{Word as StoreWord, Byte as StoreByte, Half as StoreHalf}
use Rattle.ppc_isa.specs.declared.instruction.ReversedKind.{ReversedKind}
use Rattle.ppc_isa.specs.declared.instruction.ReversedKind.TheVariants.{Word as ReversedWord, Half as ReversedHalf}
use Rattle.ppc_isa.specs.declared.instruction.BranchRegister.{BranchRegister}
use Rattle.ppc_isa.specs.declared.instruction.BranchRegister.TheVariants.{Link, Count}

-- a letter that stands where a bit is set
abbrev pub letter : Bool → List ℕ → List ℕ
letter set text = if set then text else []

abbrev pub update : Bool → List ℕ
update u = letter u (codes "u")

-- Rc
abbrev pub record_mark : Bool → List ℕ
record_mark rc = letter rc (codes ".")

-- OE and Rc
abbrev pub overflow_marks : Bool → Bool → List ℕ
overflow_marks oe rc = letter oe (codes "o") ++ record_mark rc

-- LK
abbrev pub link_mark : Bool → List ℕ
link_mark lk = letter lk (codes "l")

-- LK and AA
abbrev pub branch_marks : Bool → Bool → List ℕ
branch_marks lk aa = link_mark lk ++ letter aa (codes "a")

-- what follows `add` and `subf` in the name of a sum and of a difference
abbrev pub carry_name : CarryUse → List ℕ
carry_name Plain = []
carry_name Carrying = codes "c"
carry_name Extended = codes "e"

abbrev pub extended_name : ExtendedOperand → List ℕ
extended_name Zero = codes "ze"
extended_name MinusOne = codes "me"

abbrev pub immediate_name : ImmediateOp → List ℕ
immediate_name ImmediateOr = codes "ori"
immediate_name OrShifted = codes "oris"
immediate_name ImmediateXor = codes "xori"
immediate_name XorShifted = codes "xoris"
immediate_name ImmediateAnd = codes "andi."
immediate_name AndShifted = codes "andis."

abbrev pub logical_name : LogicalOp → List ℕ
logical_name And = codes "and"
logical_name Or = codes "or"
logical_name Xor = codes "xor"
logical_name Nand = codes "nand"
logical_name Nor = codes "nor"
logical_name Equivalent = codes "eqv"
logical_name AndComplement = codes "andc"
logical_name OrComplement = codes "orc"

abbrev pub unary_name : UnaryOp → List ℕ
unary_name ExtendSignByte = codes "extsb"
unary_name ExtendSignHalf = codes "extsh"
unary_name CountLeadingZeros = codes "cntlzw"

abbrev pub shift_name : ShiftOp → List ℕ
shift_name Left = codes "slw"
shift_name Right = codes "srw"
shift_name RightAlgebraic = codes "sraw"

abbrev pub rotate_name : MaskUse → List ℕ
rotate_name Insert = codes "rlwimi"
rotate_name Clear = codes "rlwinm"

abbrev pub load_name : LoadKind → List ℕ
load_name LoadWord = codes "lwz"
load_name LoadByte = codes "lbz"
load_name LoadHalf = codes "lhz"
load_name HalfAlgebraic = codes "lha"

abbrev pub store_name : StoreKind → List ℕ
store_name StoreWord = codes "stw"
store_name StoreByte = codes "stb"
store_name StoreHalf = codes "sth"

abbrev pub load_reversed_name : ReversedKind → List ℕ
load_reversed_name ReversedWord = codes "lwbrx"
load_reversed_name ReversedHalf = codes "lhbrx"

abbrev pub store_reversed_name : ReversedKind → List ℕ
store_reversed_name ReversedWord = codes "stwbrx"
store_reversed_name ReversedHalf = codes "sthbrx"

abbrev pub branch_name : BranchRegister → List ℕ
branch_name Link = codes "bclr"
branch_name Count = codes "bcctr"
