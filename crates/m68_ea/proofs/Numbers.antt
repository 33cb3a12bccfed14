-- The registers of an instruction's operand are of the eight.
use Rattle.m68_isa.specs.declared.ea.Ea.{Ea}
use Rattle.m68_isa.specs.declared.ea.Ea.TheVariants.{Dn, An, Ind, Post, Pre, Disp, Indexed, AbsWord, AbsLong, PcDisp, PcIndexed, Imm}
use Rattle.m68_isa.specs.Fields.{HasRegisters}
use Rattle.m68_ea.specs.PlacesClauses.{HasNumbers}

pub has_numbers : (e : Ea) → HasRegisters e → HasNumbers e
has_numbers (Dn n) h = h
has_numbers (An n) h = h
has_numbers (Ind n) h = h
has_numbers (Post n) h = h
has_numbers (Pre n) h = h
has_numbers (Disp n d) h = h
has_numbers (Indexed n i) h = (h.0, h.1)
has_numbers (AbsWord a) h = tt
has_numbers (AbsLong a) h = tt
has_numbers (PcDisp at d) h = tt
has_numbers (PcIndexed at i) h = h.0
has_numbers (Imm v) h = tt
