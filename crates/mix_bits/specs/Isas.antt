-- Instruction sets.
use Rattle.std.specs.Prelude.{Bool, true, false}
use Rattle.mix_bits.specs.declared.isa.Isa.{Isa}
use Rattle.mix_bits.specs.declared.isa.Isa.TheVariants.{M68, Ppc}

-- whether two sets are the same one
abbrev pub is_isa : Isa → Isa → Bool
is_isa M68 M68 = true
is_isa M68 Ppc = false
is_isa Ppc M68 = false
is_isa Ppc Ppc = true
