-- The addressing modes: where an operand stands, and how its registers change
-- (M68000 Family Programmer's Reference Manual, section 2.2). Sums of addresses wrap.
use Rattle.std.specs.Prelude.{ℕ, ◌*◌, ◌==◌, if◌then◌else◌, slice_index, slice_set}
use Rattle.mix_bits.specs.declared.size.Size.{Size}
use Rattle.mix_bits.specs.declared.size.Size.TheVariants.{Zero, One, Two, Four}
use Rattle.mix_bits.specs.Sizes.{sign_extended}
use Rattle.m68_isa.specs.declared.registers.Regs68.{Regs68}
use Rattle.m68_isa.specs.declared.ea.Index.{Index}
use Rattle.m68_isa.specs.declared.ea.Ea.{Ea}
use Rattle.m68_isa.specs.declared.ea.Ea.TheVariants.{Dn as InDn, An as InAn, Ind, Post, Pre, Disp, Indexed, AbsWord, AbsLong, PcDisp, PcIndexed, Imm as Immediate}
use Rattle.m68_ea.specs.declared.places.Place68.{Place68}
use Rattle.m68_ea.specs.declared.places.Place68.TheVariants.{Dn, An, Mem, Imm}
use Rattle.mix_bits.specs.Addresses.{backward, onward}

-- the registers with one of them replaced
abbrev pub with_data : Regs68 → ℕ → ℕ → Regs68
with_data r n v = record r { d = slice_set r.d n v }

abbrev pub with_address : Regs68 → ℕ → ℕ → Regs68
with_address r n v = record r { a = slice_set r.a n v }

-- how far an increment or a decrement goes: the stack pointer stays even
abbrev pub step_of : ℕ → Size → ℕ
step_of n Zero = 0
step_of n One = if n == 7 then 2 else 1
step_of n Two = 2
step_of n Four = 4

-- what an index register adds: all of it, or its low word with its sign
abbrev pub index_register : Regs68 → Index → ℕ
index_register r i = if i.address then slice_index r.a i.reg else slice_index r.d i.reg

abbrev pub index_value : Regs68 → Index → ℕ
index_value r i = if i.long then index_register r i else sign_extended (index_register r i) Two

-- a base, the index word's displacement, and what its register adds so many times
abbrev pub indexed : Regs68 → ℕ → Index → ℕ
indexed r base i = onward (onward base i.disp) (index_value r i * i.scale)

-- the place of an operand, and the registers once it is found; `pc` is the address of the first word,
-- and modes with the program counter count from their extension word, so many bytes behind it
abbrev pub placed : Regs68 → Ea → Size → Regs68 × Place68
placed r (InDn n) s = (r, Dn n)
placed r (InAn n) s = (r, An n)
placed r (Ind n) s = (r, Mem (slice_index r.a n))
placed r (Post n) s = (with_address r n (onward (slice_index r.a n) (step_of n s)), Mem (slice_index r.a n))
placed r (Pre n) s = (with_address r n (backward (slice_index r.a n) (step_of n s)), Mem (backward (slice_index r.a n) (step_of n s)))
placed r (Disp n d) s = (r, Mem (onward (slice_index r.a n) d))
placed r (Indexed n i) s = (r, Mem (indexed r (slice_index r.a n) i))
placed r (AbsWord a) s = (r, Mem a)
placed r (AbsLong a) s = (r, Mem a)
placed r (PcDisp at d) s = (r, Mem (onward (onward r.pc at) d))
placed r (PcIndexed at i) s = (r, Mem (indexed r (onward r.pc at) i))
placed r (Immediate v) s = (r, Imm v)

-- the address of a place in memory
abbrev pub address_in : Place68 → ℕ
address_in (Dn n) = 0
address_in (An n) = 0
address_in (Mem a) = a
address_in (Imm v) = 0

-- the address that a control mode gives
abbrev pub address_of : Regs68 → Ea → ℕ
address_of r e = address_in (placed r e Zero).1
