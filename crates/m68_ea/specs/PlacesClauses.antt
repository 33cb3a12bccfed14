-- What is asked of an operand and a place: register numbers below 8, and no immediate where one writes
-- (M68000 Family Programmer's Reference Manual, section 2.2).
use Rattle.std.specs.Prelude.{◌<◌}
use Rattle.m68_isa.specs.declared.ea.Ea.{Ea}
use Rattle.m68_isa.specs.declared.ea.Ea.TheVariants.{Dn as InDn, An as InAn, Ind, Post, Pre, Disp, Indexed, AbsWord, AbsLong, PcDisp, PcIndexed, Imm as Immediate}
use Rattle.m68_ea.specs.declared.places.Place68.{Place68}
use Rattle.m68_ea.specs.declared.places.Place68.TheVariants.{Dn, An, Mem, Imm}

-- each register of an operand is one of the eight, and so is its index register
abbrev pub HasNumbers : Ea → Type 0
HasNumbers (InDn n) = n < 8
HasNumbers (InAn n) = n < 8
HasNumbers (Ind n) = n < 8
HasNumbers (Post n) = n < 8
HasNumbers (Pre n) = n < 8
HasNumbers (Disp n d) = n < 8
HasNumbers (Indexed n i) = (n < 8) × (i.reg < 8)
HasNumbers (AbsWord a) = Unit {0}
HasNumbers (AbsLong a) = Unit {0}
HasNumbers (PcDisp at d) = Unit {0}
HasNumbers (PcIndexed at i) = i.reg < 8
HasNumbers (Immediate v) = Unit {0}

-- each register of a place is one of the eight
abbrev pub HasRegister : Place68 → Type 0
HasRegister (Dn n) = n < 8
HasRegister (An n) = n < 8
HasRegister (Mem a) = Unit {0}
HasRegister (Imm v) = Unit {0}

-- it is no immediate value
abbrev pub IsWritable : Place68 → Type 0
IsWritable (Dn n) = Unit {0}
IsWritable (An n) = Unit {0}
IsWritable (Mem a) = Unit {0}
IsWritable (Imm v) = ⊥
