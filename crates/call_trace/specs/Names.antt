-- The words by which the trace names sets of instructions and faults.
use Rattle.std.specs.Prelude.{ℕ, List, ◌++◌, codes}
use Rattle.mix_bits.specs.declared.isa.Isa.{Isa}
use Rattle.mix_bits.specs.declared.isa.Isa.TheVariants.{M68, Ppc}
use Rattle.mix_bits.specs.declared.fault.FaultKind.{FaultKind}
use Rattle.mix_bits.specs.declared.fault.FaultKind.TheVariants.{Illegal, Privileged, Odd, Outside, GateStore, FrameStore, GateFetch, Vector, BadInstr, Trap, NoTrap, BadDesc, Info, Mismatch, NoRecord, FramesFull, StackOutside, StackCrossed, StackFull, Unmatched}
use Rattle.switch_frame.specs.declared.kind.Kind.{Kind}
use Rattle.switch_frame.specs.Sets.{caller_isa, callee_isa}

abbrev pub set_name : Isa → List ℕ
set_name M68 = codes "68k"
set_name Ppc = codes "ppc"

-- the set of a caller and that of its callee
abbrev pub set_names : Kind → List ℕ
set_names kind = set_name (caller_isa kind) ++ codes " " ++ set_name (callee_isa kind)

abbrev pub fault_name : FaultKind → List ℕ
fault_name Illegal = codes "illegal"
fault_name Privileged = codes "privileged"
fault_name Odd = codes "odd"
fault_name Outside = codes "outside"
fault_name GateStore = codes "gatestore"
fault_name FrameStore = codes "framestore"
fault_name GateFetch = codes "gatefetch"
fault_name Vector = codes "vector"
fault_name BadInstr = codes "badinstr"
fault_name Trap = codes "trap"
fault_name NoTrap = codes "notrap"
fault_name BadDesc = codes "baddesc"
fault_name Info = codes "badinfo"
fault_name Mismatch = codes "mismatch"
fault_name NoRecord = codes "norecord"
fault_name FramesFull = codes "framesfull"
fault_name StackOutside = codes "stackoutside"
fault_name StackCrossed = codes "stackcrossed"
fault_name StackFull = codes "stackfull"
fault_name Unmatched = codes "unmatched"
