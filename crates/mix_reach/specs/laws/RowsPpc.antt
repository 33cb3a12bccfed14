-- Where an instruction of PowerPC code stores, by its row.
use Rattle.std.specs.Prelude.{ℕ, ◌*◌, length}
use Rattle.mix_bits.specs.Addresses.{onward}
use Rattle.ppc_isa.specs.declared.registers.RegsPpc.{RegsPpc}
use Rattle.ppc_isa.specs.declared.instruction.InstrPpc.{InstrPpc}
use Rattle.ppc_isa.specs.declared.instruction.InstrPpc.TheVariants.{Store, StoreIndexed, Multiple, Reversed, StringImmediate, StringIndexed}
use Rattle.ppc_isa.specs.declared.instruction.MultipleAccess.TheVariants.{StoreMultiple}
use Rattle.ppc_isa.specs.declared.instruction.ReversedAccess.TheVariants.{StoreReversed}
use Rattle.ppc_isa.specs.declared.instruction.StringImmediateAccess.TheVariants.{StoreStringImmediate}
use Rattle.ppc_isa.specs.declared.instruction.StringIndexedAccess.TheVariants.{StoreStringIndexed}
use Rattle.ppc_isa.specs.Operands.{string_length}
use Rattle.ppc_integer.specs.Xer.{string_length_of}
use Rattle.ppc_integer.specs.File.{base_of}
use Rattle.ppc_integer.specs.Storage.{index_address, offset_address}
use Rattle.mix_reach.specs.declared.reach.Reach.{Reach}
use Rattle.mix_reach.specs.laws.Ranges.{nothing, range}

-- the bytes of a string, whose address may be any number
abbrev pub string_at : ℕ → ℕ → Reach
string_at a n = range (onward a 0) n

abbrev pub stores : RegsPpc → InstrPpc → Reach
stores r (Store kind update s a offset) = range (offset_address r a offset) 4
stores r (StoreIndexed kind update s a b) = range (index_address r a b) 4
stores r (Reversed (StoreReversed kind s a b)) = range (index_address r a b) 4
stores r (Multiple (StoreMultiple s a offset)) = range (offset_address r a offset) (4 * length r.gpr)
stores r (StringImmediate (StoreStringImmediate s a nb)) = string_at (base_of r a) (string_length nb)
stores r (StringIndexed (StoreStringIndexed s a b)) = string_at (index_address r a b) (string_length_of r.xer)
stores r instruction = nothing
